use Rattle.support.proofs.Choosing.{chosen_from, supports_from}
use Rattle.support.proofs.choice.choose.Goals as goal

pub listed-requires : goal.listed-requires
listed-requires c = (chosen_from _ _ _ _ _ _ _ _ _ c.none-chosen.ensures c.for_value.ensures c.for_status.ensures c.for_phase.ensures).few

pub returns : goal.returns
returns c =
    supports_from _ _ _ _ _ _ _
    (chosen_from _ _ _ _ _ _ _ _ _ c.none-chosen.ensures c.for_value.ensures c.for_status.ensures c.for_phase.ensures)
    c.listed.ensures
