-- The rounds below t are done.
use Rattle.std.proofs.Common.{◌≡◌, ℕ, List}
use Rattle.words.specs.Computation.{rounds}
use Rattle.words.proofs.hashing.compression.eight_rounds.Given as goal

abbrev pub invariant-loop-t : goal.invariant-loop-t
invariant-loop-t l = (hash : List ℕ) → l.initial.v ≡ rounds l.w hash l.from → l.v ≡ rounds l.w hash l.t
