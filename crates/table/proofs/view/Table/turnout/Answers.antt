use Rattle.std.proofs.Common.{rules}
use Rattle.agreement.specs.Counting.{some}
use Rattle.agreement.specs.Rules.{turnout}
use Rattle.agreement.specs.TwoWay.{two_way}
use Rattle.table.specs.View.{records}
use Rattle.table.proofs.view.Table.turnout.Goals as goal

pub returns : goal.returns
unfolding turnout two_way
returns c = c.cabins.ensures (λ j. some (records c.args.self.now c.args.phase j) 3) (λ j b called. search rules)
