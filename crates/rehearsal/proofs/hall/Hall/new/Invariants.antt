use Rattle.std.proofs.Common.{◌≡◌, map, replicate, vec_items}
use Rattle.rehearsal.specs.Seats.{closed_seat, seat_view}
use Rattle.rehearsal.proofs.hall.Hall.new.Given as goal

-- as many seats as turns, none of them open
abbrev pub invariant-loop-number : goal.invariant-loop-number
invariant-loop-number l = map seat_view (vec_items l.seats) ≡ replicate l._number closed_seat
