-- The four seats of a rehearsal, and what a step does to them. Assumes nothing.
use Rattle.std.specs.Prelude.{ℕ, List, [], map, length, Some, None, vec_items, Option, nat_lt, slice_index_or, slice_set}
use Rattle.std.specs.List.{range_with_len}
use Rattle.settings.specs.Refusals.{needs}
use Rattle.script.specs.Answers.{Reply}
use Rattle.script.specs.Lines.{Said}
use Rattle.script.specs.Stage.{Turn, refuses}
use Rattle.script.specs.Steps.{actor}
use Rattle.rehearsal_next.specs.Seats.{MayAnnounce, SeatView, closed_seat, packet_or_none, seat_announces, seat_hears, seat_hears_latest, seat_opens, seat_view}
use Rattle.rehearsal_next.specs.Coins.{coin_bits}
use Rattle.rehearsal_next.specs.Steps.{step_of}
use Rattle.rehearsal_next.specs.Words.{claimed}
use Rattle.rehearsal_next.specs.declared.hall.Hall.{Hall}
use Rattle.rehearsal_next.specs.declared.step.Step.{Step}
use Rattle.rehearsal_next.specs.declared.step.Step.TheVariants.{Open, Announce, Hear, HearRecord}

-- the seats of a hall, by cabin number
abbrev pub stage_of : Hall → List SeatView
stage_of h = map seat_view (vec_items h.seats)

-- seat i; a number that no seat has stands for a seat that is not open
abbrev pub seat_at : List SeatView → ℕ → SeatView
seat_at stage i = slice_index_or stage i (closed_seat [])

-- every cabin's seat before the first step
abbrev pub first_seat : ℕ → SeatView
first_seat i = closed_seat (coin_bits i)

abbrev pub first_stage : List SeatView
first_stage = map first_seat (range_with_len 0 4)

-- what a step does to the seat of cabin i, which acts; p is the packet that an accepted announce writes
abbrev pub step_turn : Step → ℕ → List ℕ → List SeatView → SeatView → Turn SeatView
step_turn (Open v) i p stage seat = seat_opens i v seat
step_turn Announce i p stage seat = seat_announces i p seat
step_turn (Hear j) i p stage seat = seat_hears_latest (seat_at stage j).packet seat
step_turn (HearRecord x) i p stage seat = seat_hears (claimed x) seat

-- bytes that say no step are refused with 19
abbrev pub turn : Option Step → ℕ → List ℕ → List SeatView → Turn SeatView
turn None i p stage = refuses 19 (seat_at stage i)
turn (Some step) i p stage = step_turn step i p stage (seat_at stage i)

-- the reply to a step: 19 for a number that no seat has, else as the seat replies
abbrev pub stage_reply : Option Step → ℕ → List ℕ → List SeatView → Reply
stage_reply step i p stage = needs (nat_lt i (length stage)) 19 (turn step i p stage).reply

-- the seats after a step
abbrev pub stage_after : Option Step → ℕ → List ℕ → List SeatView → List SeatView
stage_after step i p stage = slice_set stage i (turn step i p stage).seat

-- the packet p is one that the step may write
abbrev pub MayWrite : Option Step → ℕ → List SeatView → List ℕ → Type 0
MayWrite None i stage p = Unit {0}
MayWrite (Some (Open v)) i stage p = Unit {0}
MayWrite (Some Announce) i stage p = MayAnnounce i (seat_at stage i) p
MayWrite (Some (Hear j)) i stage p = Unit {0}
MayWrite (Some (HearRecord x)) i stage p = Unit {0}

-- the latest packet of cabin i, or nothing
abbrev pub latest : List SeatView → ℕ → List ℕ
latest stage i = packet_or_none (seat_at stage i).packet

-- what the line of step k says, by its bytes, the packet that it wrote and the seats before it
abbrev pub step_said : ℕ → List ℕ → List ℕ → List SeatView → Said
step_said k bs p stage = record {
  step = k;
  cabin = actor bs;
  state = (seat_at (stage_after (step_of bs) (actor bs) p stage) (actor bs)).state;
  reply = stage_reply (step_of bs) (actor bs) p stage;
}
