use Rattle.table.specs.Places.{filled_at}
use Rattle.support.specs.Passes.{Listed}
use Rattle.support.specs.View.{support_places}
use Rattle.support.proofs.chosen.Chosen.listed.Given as goal

-- the places below this one are listed
abbrev pub invariant-loop-place : goal.invariant-loop-place
invariant-loop-place l = Listed (filled_at l.self.places) l.place (support_places l.support)
