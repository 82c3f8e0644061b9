use Rattle.support.proofs.Serving.{serves_before, serves_second}
use Rattle.support.proofs.chosen.Chosen.for_converge.Goals as goal

pub returns-then-has_quorum : goal.returns-then-has_quorum
returns-then-has_quorum c =
    search (serves_before, c.requires, c.saturating_sub-before.ensures, c.quorum-quorum.ensures, c.if-has_quorum.ensures, c.lowest.ensures.adds, c.lowest.ensures.enough)

pub returns-else-has_quorum : goal.returns-else-has_quorum
returns-else-has_quorum c =
    serves_second _ _ _ _ _ _ _ _ _ c.requires c.saturating_sub-second.ensures c.saturating_sub-before.ensures c.quorum-quorum.ensures c.if-has_quorum.ensures
    c.lowest-else-has_quorum.ensures.adds c.lowest-else-has_quorum.ensures.enough
