-- What opening a cabin answers, and the table it leaves. Assumes nothing.
use Rattle.std.specs.Prelude.{ℕ, false, List, length, None, Ok, Err, Result, ◌==◌, nat_le, nat_lt}
use Rattle.settings.specs.Refusals.{needs}
use Rattle.settings.specs.declared.settings.Settings.{Settings}
use Rattle.settings.specs.declared.status.Status.TheVariants.{Undecided}
use Rattle.table.specs.Places.{places_of, emptied}
use Rattle.table.specs.declared.place.Place.{Place}
use Rattle.moves.specs.declared.state.State.{State}

-- cabin i at branch point b, opened with choice v: phase 1, undecided, no decision, no mark
abbrev pub opened : Settings → ℕ → ℕ → ℕ → State
opened s i b v = record { settings = s; number = i; branch = b; phase = 1; value = v; status = Undecided; decision = None; announced = false }

-- refusal 3 for the cabin's number, 4 for the choice, 5 for the table's size; else an open cabin
abbrev pub open_answer : Settings → ℕ → ℕ → ℕ → List Place → Result State ℕ
open_answer s i b v t =
    needs (nat_lt i s.cabins) 3 (needs (nat_le v 1) 4 (needs (length t == places_of s) 5 (Ok (opened s i b v))))

-- an accepted open empties the table, a refused one leaves it as it was
abbrev pub open_table : Result State ℕ → List Place → List Place
open_table (Ok state) t = emptied t
open_table (Err k) t = t
