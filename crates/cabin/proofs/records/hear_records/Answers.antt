use Rattle.std.proofs.Common.{ap, arith, rules}
use Rattle.settings.specs.Refusals.{told}
use Rattle.moves.specs.Hearing.{Hearing}
use Rattle.cabin.proofs.Hearings.{heard_all, heard_more, heard_none}
use Rattle.cabin.proofs.records.hear_records.Goals as goal

pub loop-place-init : goal.loop-place-init
loop-place-init g c =
    (omega arith, heard_none (g.W.WordCheck.answers c.args.check.now) c.args.state.now c.args.table.now c.args.packet.now c.default-tally.result (search rules))

pub loop-place-preserved : goal.loop-place-preserved
loop-place-preserved g c =
    (omega arith, heard_more (g.W.WordCheck.answers c.args.check.now) c.args.state.now c.args.table.now c.args.packet.now c.loop-place.place c.loop-place.tally c.count.new.self c.loop-place.table c.hear_record-answer.new.table (told (λ x. x) c.hear_record-answer.result) c.loop-place.invariant.1 c.hear_record-answer.ensures.answer c.hear_record-answer.ensures.table c.count.ensures)

pub returns : goal.returns
returns g c =
    let all = heard_all (g.W.WordCheck.answers c.args.check.now) c.args.state.now c.args.table.now c.args.packet.now c.loop-place.place c.loop-place.tally c.loop-place.table c.loop-place.invariant.1 (omega arith) in
    record { tally = ap (λ (h : Hearing). h.progress) all; table = ap (λ (h : Hearing). h.table) all }
