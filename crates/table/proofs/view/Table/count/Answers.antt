use Rattle.std.proofs.Common.{rules}
use Rattle.agreement.specs.Rules.{tally}
use Rattle.table.specs.View.{records}
use Rattle.table.proofs.view.Table.count.Goals as goal

pub returns : goal.returns
unfolding tally
returns c = c.cabins.ensures (λ j. records c.args.self.now c.args.phase j c.args.value) (λ j b called. search rules)
