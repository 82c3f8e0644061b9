-- The words below t are those of the schedule.
use Rattle.std.proofs.Common.{◌≡◌, ℕ, ◌<◌, get_or, length, take}
use Rattle.words.specs.Computation.{schedule}
use Rattle.words.proofs.hashing.compression.extend.Given as goal

abbrev pub invariant-loop-t : goal.invariant-loop-t
invariant-loop-t l = (length l.w ≡ 64) × ((k : ℕ) → k < l.t → get_or l.w k 0 ≡ get_or (schedule (take 16 l.initial.w) 64) k 0)
