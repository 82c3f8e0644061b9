-- A seat of a rehearsal, and what opening its cabin does to it. Assumes nothing.
use Rattle.std.specs.Prelude.{ℕ, List, replicate, Some, None, vec_items, Option}
use Rattle.std.specs.Option.{option_map}
use Rattle.table.specs.Places.{places_of, emptied}
use Rattle.table.specs.declared.place.Place.{Place}
use Rattle.table.specs.declared.place.Place.TheVariants.{Empty}
use Rattle.moves.specs.Opening.{open_answer}
use Rattle.moves.specs.declared.state.State.{State}
use Rattle.cabin.specs.Views.{cabin_state}
use Rattle.script.specs.Settings.{rehearsal_settings}
use Rattle.script.specs.Stage.{Turn, opens_from}
use Rattle.rehearsal.specs.declared.seat.Seat.{Seat}

-- a seat as the rules see it: the state of its cabin if it is open, and its table
pub record SeatView : Type 0 where
  pub state : Option State
  pub table : List Place

abbrev pub seat_view : Seat → SeatView
seat_view s = record { state = option_map cabin_state s.cabin; table = vec_items s.table }

-- a seat whose cabin is not open, with an empty table
abbrev pub closed_seat : SeatView
closed_seat = record { state = None; table = replicate (places_of rehearsal_settings) Empty }

-- opening cabin i with choice v at branch point 0, unless it is open
abbrev pub seat_opens : ℕ → ℕ → SeatView → Turn SeatView
seat_opens i v seat =
    opens_from seat.state (open_answer rehearsal_settings i 0 v seat.table) (λ c. record { state = Some c; table = emptied seat.table }) seat
