use Rattle.std.proofs.Common.{Ok, rules}
use Rattle.moves.specs.Opening.{opened}
use Rattle.runs.proofs.Calls.{open_keeps}
use Rattle.cabin.proofs.cabin.Cabin.open.Goals as goal

pub returns-clause-keeps : goal.returns-clause-keeps
returns-clause-keeps c =
    open_keeps c.args.settings c.args.number c.args.branch c.args.choice (Ok (opened c.args.settings c.args.number c.args.branch c.args.choice)) c.args.table.now c.fill.new.self (search rules) (search rules)
