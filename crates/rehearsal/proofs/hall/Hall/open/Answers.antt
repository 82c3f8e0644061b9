use Rattle.std.proofs.Common.{◌≡◌, Some, ap, ◌∙◌}
use Rattle.std.specs.Result.{result_ok}
use Rattle.script.proofs.Stages.{turned_at}
use Rattle.rehearsal.specs.Seats.{closed_seat, seat_opens, seat_view}
use Rattle.rehearsal.proofs.hall.Hall.open.Goals as goal

pub returns : goal.returns
returns c =
    let found : c.get_mut.result ≡ Some c.in_ok-seat.seat = c.ok_or.ensures.ok_part ∙ ap result_ok c.in_ok-seat.was in
    let e = rw found at c.get_mut.ensures.item in
    let p = turned_at seat_view closed_seat _ _ _ (seat_opens c.args.cabin c.args.choice) _ _ _ c.from.ensures e.3.0 e.1 c.open.ensures.reply c.open.ensures.after in
    record { reply = p.replied; after = p.left }
