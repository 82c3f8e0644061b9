use Rattle.support.proofs.Serving.{serves_decide, serves_lock, serves_none}
use Rattle.support.proofs.chosen.Chosen.for_value.Goals as goal

pub returns-in-Lock : goal.returns-in-Lock
returns-in-Lock c = search (serves_lock, c.in-Lock.ensures, c.saturating_sub-before.ensures, c.weak_quorum.ensures, c.lowest.ensures.adds, c.lowest.ensures.enough)

pub returns-then-value-eq-NO_PREFERENCE : goal.returns-then-value-eq-NO_PREFERENCE
returns-then-value-eq-NO_PREFERENCE c =
    search (serves_none, c.in-Decide.ensures, c.saturating_sub.ensures, c.if-value-eq-NO_PREFERENCE.true, c.both.ensures.adds, c.both.ensures.carries)

pub returns-else-value-eq-NO_PREFERENCE : goal.returns-else-value-eq-NO_PREFERENCE
returns-else-value-eq-NO_PREFERENCE c =
    search (serves_decide, c.in-Decide.ensures, c.saturating_sub-before.ensures, c.if-value-eq-NO_PREFERENCE.false, c.quorum.ensures, c.lowest-else-value-eq-NO_PREFERENCE.ensures.adds, c.lowest-else-value-eq-NO_PREFERENCE.ensures.enough)
