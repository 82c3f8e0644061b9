-- The four seats of a rehearsal, and what a step does to them. Assumes nothing.
use Rattle.std.specs.Prelude.{ℕ, List, map, length, replicate, Some, None, Err, vec_items, Option, nat_lt, slice_index_or, slice_set}
use Rattle.settings.specs.Refusals.{needs}
use Rattle.script.specs.Answers.{Reply}
use Rattle.script.specs.Lines.{Said}
use Rattle.script.specs.Settings.{rehearsal_settings}
use Rattle.script.specs.Steps.{actor}
use Rattle.rehearsal.specs.Seats.{SeatView, closed_seat, seat_opens, seat_view}
use Rattle.rehearsal.specs.Steps.{step_of}
use Rattle.rehearsal.specs.declared.hall.Hall.{Hall}
use Rattle.rehearsal.specs.declared.step.Step.{Step}
use Rattle.rehearsal.specs.declared.step.Step.TheVariants.{Open}

-- the seats of a hall, by cabin number
abbrev pub stage_of : Hall → List SeatView
stage_of h = map seat_view (vec_items h.seats)

-- seat i; a number that no seat has stands for a seat that is not open
abbrev pub seat_at : List SeatView → ℕ → SeatView
seat_at stage i = slice_index_or stage i closed_seat

-- every cabin's seat before the first step
abbrev pub first_stage : List SeatView
first_stage = replicate rehearsal_settings.cabins closed_seat

-- opening cabin i with choice v: refusal 19 for a number that no seat has, else as its seat replies
abbrev pub stage_open_reply : ℕ → ℕ → List SeatView → Reply
stage_open_reply i v stage = needs (nat_lt i (length stage)) 19 (seat_opens i v (seat_at stage i)).reply

abbrev pub stage_open : ℕ → ℕ → List SeatView → List SeatView
stage_open i v stage = slice_set stage i (seat_opens i v (seat_at stage i)).seat

-- the reply to a step; bytes that say no step are refused with 19
abbrev pub stage_reply : Option Step → List SeatView → Reply
stage_reply None stage = Err 19
stage_reply (Some (Open i v)) stage = stage_open_reply i v stage

-- the seats after a step
abbrev pub stage_after : Option Step → List SeatView → List SeatView
stage_after None stage = stage
stage_after (Some (Open i v)) stage = stage_open i v stage

-- what the line of step k says, by its bytes and the seats before it
abbrev pub step_said : ℕ → List ℕ → List SeatView → Said
step_said k bs stage = record {
  step = k;
  cabin = actor bs;
  state = (seat_at (stage_after (step_of bs) stage) (actor bs)).state;
  reply = stage_reply (step_of bs) stage;
}
