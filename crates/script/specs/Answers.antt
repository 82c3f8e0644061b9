-- How a step is answered. Assumes nothing.
use Rattle.std.specs.Prelude.{ℕ, Some, None, Ok, Err, Option, Result}
use Rattle.std.specs.Option.{option_map}
use Rattle.settings.specs.Refusals.{refusal_number, told}
use Rattle.settings.specs.declared.refusal.Refusal.{Refusal}

-- an accepted step tells the number of the first fault, if a record was turned away; a refused one tells its refusal's
abbrev pub Reply : Type 0
Reply = Result (Option ℕ) ℕ

-- the reply of a step that hears no packet
abbrev pub done_reply : Result (Unit {0}) Refusal → Reply
done_reply r = told (λ x. None) r

-- the reply of a step that may hear a packet
abbrev pub heard_reply : Result (Option Refusal) Refusal → Reply
heard_reply r = told (option_map refusal_number) r

-- the number that a line shows
abbrev pub shown_number : Reply → ℕ
shown_number (Ok None) = 0
shown_number (Ok (Some k)) = k
shown_number (Err k) = k
