-- No more agreed than were tried.
use Rattle.std.proofs.Common.{◌≤◌}
use Rattle.vectors.proofs.run.Given as goal

abbrev pub invariant-loop-vector : goal.invariant-loop-vector
invariant-loop-vector l = l.agreed ≤ l.vector-index
