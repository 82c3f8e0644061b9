use Rattle.std.proofs.Common.{◌≡◌, map, vec_items}
use Rattle.std.specs.List.{range_with_len}
use Rattle.rehearsal_next.specs.Seats.{seat_view}
use Rattle.rehearsal_next.specs.Stage.{first_seat}
use Rattle.rehearsal_next.proofs.hall.Hall.new.Given as goal

-- the seats of as many cabins as turns, none of them open
abbrev pub invariant-loop-number : goal.invariant-loop-number
invariant-loop-number l = map seat_view (vec_items l.seats) ≡ map first_seat (range_with_len 0 l.number)
