use Rattle.std.proofs.Common.{ap, ◌∙◌}
use Rattle.support.specs.View.{support_places}
use Rattle.support.proofs.Listing.{listed_in, listed_out}
use Rattle.support.proofs.chosen.Chosen.listed.Goals as goal
use Rattle.support.proofs.chosen.Chosen.listed.Goals.{then-is_filled, else-is_filled}

pub loop-place-preserved : goal.loop-place-preserved
loop-place-preserved c =
    elim c.if-is_filled.branch [
      | then-is_filled w ↦ search (listed_in, c.loop-place.invariant, w.if-is_filled.ensures, ap support_places w.support-is ∙ w.push.ensures)
      | else-is_filled w ↦ search (listed_out, c.loop-place.invariant, w.if-is_filled.ensures, ap support_places w.support-is)
    ]
