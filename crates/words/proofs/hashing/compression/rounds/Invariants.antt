-- Eight rounds are done at each turn.
use Rattle.std.proofs.Common.{◌≡◌, ◌*◌}
use Rattle.words.specs.Computation.{rounds}
use Rattle.words.proofs.hashing.compression.rounds.Given as goal

abbrev pub invariant-loop-turn : goal.invariant-loop-turn
invariant-loop-turn l = l.v ≡ rounds l.w l.initial.v (8 * l.turn)
