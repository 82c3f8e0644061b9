use Rattle.std.proofs.Common.{arith}
use Rattle.support.proofs.Serving.{serves_undecided}
use Rattle.support.proofs.chosen.Chosen.for_status.Goals as goal

pub returns-then-phase-gt-CYCLE : goal.returns-then-phase-gt-CYCLE
returns-then-phase-gt-CYCLE c = serves_undecided _ _ _ _ c.args.phase _ _ _ c.in-Undecided.is c.last_lock.ensures (omega arith) c.both.ensures.adds c.both.ensures.carries
