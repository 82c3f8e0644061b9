use Rattle.std.proofs.Common.{[]}
use Rattle.script.proofs.Stages.{seats_more}
use Rattle.rehearsal_next.specs.Seats.{closed_seat, seat_view}
use Rattle.rehearsal_next.specs.Stage.{first_seat}
use Rattle.rehearsal_next.proofs.hall.Hall.new.Goals as goal

pub loop-number-preserved : goal.loop-number-preserved
loop-number-preserved c =
    seats_more seat_view (closed_seat []) first_seat _ _ _ _ c.loop-number.invariant c.in_ok-new.ensures c.in_ok-push.ensures.items
