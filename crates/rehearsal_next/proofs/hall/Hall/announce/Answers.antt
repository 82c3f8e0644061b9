use Rattle.std.proofs.Common.{◌≡◌, Some, ap, ◌∙◌}
use Rattle.std.specs.Result.{result_ok}
use Rattle.rehearsal_next.proofs.Stages.{announced_at}
use Rattle.rehearsal_next.proofs.hall.Hall.announce.Goals as goal

pub returns : goal.returns
returns c =
    let found : c.get_mut.result ≡ Some c.in_ok-seat.seat = c.ok_or.ensures.ok_part ∙ ap result_ok c.in_ok-seat.was in
    let e = rw found at c.get_mut.ensures.item in
    let a = c.announce.ensures in
    let p = announced_at _ _ _ _ _ _ c.from.ensures e.3.0 e.1 a.reply a.after a.lawful in
    record { turned = p.turned; lawful = p.lawful }
