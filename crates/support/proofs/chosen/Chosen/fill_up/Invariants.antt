use Rattle.support.proofs.Passing.{Filled}
use Rattle.support.proofs.chosen.Chosen.fill_up.Given as goal

-- the cabins below this one are done
abbrev pub invariant-loop-cabin : goal.invariant-loop-cabin
invariant-loop-cabin l = Filled l.table.settings l.table.places.now l.phase l.values l.most l.initial.self.places l.self.places l.cabin l.initial.cabins l.cabins
