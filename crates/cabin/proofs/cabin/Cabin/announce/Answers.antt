use Rattle.std.proofs.Common.{Ok, rules}
use Rattle.moves.specs.Announcing.{marked}
use Rattle.runs.proofs.Calls.{announce_keeps}
use Rattle.runs.proofs.Running.{hall_agrees}
use Rattle.cabin.specs.Sealings.{sealing_of}
use Rattle.cabin.proofs.cabin.Cabin.announce.Goals as goal

pub returns-in_err-may_announce-clause-agrees : goal.returns-in_err-may_announce-clause-agrees
returns-in_err-may_announce-clause-agrees g c = hall_agrees

pub returns-clause-keeps : goal.returns-clause-keeps
returns-clause-keeps g c =
    announce_keeps c.args.self.now.state (marked c.args.self.now.state) c.args.table.now (sealing_of g.S.Sealer c.args.sealer.now) c.args.buffer.now c.write_packet-size.new.buffer (Ok c.write_packet-size.result) (search rules) (search rules) c.write_packet-size.ensures
