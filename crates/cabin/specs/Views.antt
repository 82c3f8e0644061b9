-- What the rules see of a cabin and of an answer. Assumes nothing.
use Rattle.std.specs.Prelude.{List, Ok, Err, Result}
use Rattle.std.specs.Option.{option_map}
use Rattle.settings.specs.declared.refusal.Refusal.{Refusal}
use Rattle.moves.specs.Hearing.{Hearing, Progress, Told}
use Rattle.moves.specs.Judging.{fault_view}
use Rattle.moves.specs.declared.state.State.{State}
use Rattle.table.specs.declared.place.Place.{Place}
use Rattle.cabin.specs.declared.cabin.Cabin.{Cabin}
use Rattle.cabin.specs.declared.tally.Heard.{Heard}
use Rattle.cabin.specs.declared.tally.Tally.{Tally}

-- a fact that is stated of a refused call
abbrev pub when_refused : {T : Type 0} → Result T Refusal → Type 0 → Type 0
when_refused (Ok x) fact = Unit {0}
when_refused (Err e) fact = fact

abbrev pub cabin_state : Cabin → State
cabin_state c = c.state

-- how far a hearing has come
abbrev pub tally_view : Tally → Progress
tally_view x = record { kept = x.kept; known = x.known; turned = x.turned; fault = option_map fault_view x.fault; ahead = x.ahead }

abbrev pub hearing_of : Tally → List Place → Hearing
hearing_of x t = record { progress = tally_view x; table = t }

-- what a hearing told
abbrev pub heard_view : Heard → Told
heard_view x = record { tallies = (x.tallies.0, x.tallies.1, x.tallies.2); fault = option_map fault_view x.fault }
