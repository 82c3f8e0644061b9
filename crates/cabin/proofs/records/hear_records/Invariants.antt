use Rattle.std.proofs.Common.{◌≤◌}
use Rattle.cabin.proofs.Hearings.{HeardSoFar}
use Rattle.cabin.proofs.records.hear_records.Given as goal

abbrev pub invariant-loop-place : goal.invariant-loop-place
invariant-loop-place g l = (l.place ≤ l.initial.count) × HeardSoFar (g.W.WordCheck.answers l.initial.check) l.initial.state l.initial.table l.initial.packet l.place l.tally l.table
