-- The seats of a hall, and what a step does to one of them; V is what the rules see of a seat. Assumes nothing.
use Rattle.std.specs.Prelude.{◌≡◌, ℕ, List, length, Some, None, Ok, Err, Option, Result, ◌≢◌, nat_lt, slice_index_or, slice_set}
use Rattle.settings.specs.Refusals.{needs}
use Rattle.moves.specs.declared.state.State.{State}
use Rattle.script.specs.Answers.{Reply}

-- how a seat replies to a step, and what it is then
pub record Turn (V : Type 0) : Type 0 where
  pub reply : Reply
  pub seat : V

-- a refused step leaves the seat as it was
abbrev pub refuses : {V : Type 0} → ℕ → V → Turn V
refuses k seat = record { reply = Err k; seat = seat }

-- a seat whose cabin has state o opens it, as its cabin answered; `left` is the seat with a cabin of that state. 19 where it is open already
abbrev pub opens_from : {V : Type 0} → Option State → Result State ℕ → (State → V) → V → Turn V
opens_from None (Ok c) left seat = record { reply = Ok None; seat = left c }
opens_from None (Err k) left seat = refuses k seat
opens_from (Some c) answer left seat = refuses 19 seat

-- what cabin i's turn t led to: this reply, and from the seats before to the seats after; 19 for a number that no seat has
pub record Turned {V : Type 0} (i : ℕ) (t : Turn V) (reply : Reply) (before after : List V) : Type 0 where
  pub replied : reply ≡ needs (nat_lt i (length before)) 19 t.reply
  pub left : after ≡ slice_set before i t.seat

-- a step of cabin i had a reply, and led from the seats before to the seats after; a number that no seat has stands for a closed seat
pub record Keeps {V : Type 0} (closed : V) (i : ℕ) (reply : Reply) (before after : List V) : Type 0 where
  -- a refused step changes nothing
  pub refused : (k : ℕ) → reply ≡ Err k → after ≡ before
  -- no step changes the seat of another cabin
  pub others : (j : ℕ) → (j ≢ i) → slice_index_or after j closed ≡ slice_index_or before j closed
