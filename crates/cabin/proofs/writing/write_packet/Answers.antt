use Rattle.std.proofs.Common.{arith}
use Rattle.support.specs.View.{support_places}
use Rattle.cabin.specs.Sealings.{sealing_of}
use Rattle.cabin.proofs.Written.{announced_from}
use Rattle.cabin.proofs.writing.write_packet.Goals as goal

pub returns : goal.returns
returns g c =
    let own = rw c.len-copies.ensures at c.write_own.ensures in
    rw c.len-copies.ensures (announced_from c.args.state c.args.table.now (sealing_of g.S.Sealer c.args.sealer.now) c.args.buffer.now c.write_support.new.buffer c.write_own.new.buffer (support_places c.support_of-support.result) c.requires (omega arith) (omega arith) c.support_of-support.ensures c.write_support.ensures own)
