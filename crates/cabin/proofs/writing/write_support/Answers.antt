use Rattle.std.proofs.Common.{length, get_or, ap, rules, arith}
use Rattle.support.specs.View.{support_places}
use Rattle.moves.specs.Announcing.{copied}
use Rattle.cabin.proofs.Written.{support_few, written_more}
use Rattle.cabin.proofs.writing.write_support.Goals as goal

pub loop-index-preserved : goal.loop-index-preserved
loop-index-preserved c =
    let ks = support_places c.args.support.now in
    (omega (arith, ap length c.places-place-items.ensures), written_more (λ j. copied c.args.state.now c.args.table.now (get_or ks j 0)) c.loop-index.index c.args.buffer.now c.loop-index.buffer c.write_copy.new.buffer c.loop-index.invariant.1 (omega (arith, support_few c.args.support.now)) (search rules))
