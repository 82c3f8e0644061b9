-- A session of a hall, and what has happened in it up to a moment. Assumes nothing.
use Rattle.std.specs.Prelude.{◌≡◌, ℕ, ◌-◌, ◌≤◌, Bool, true, false, cond, not, ◌&&◌, ◌||◌, List, Some, None, Option, ◌==◌}
use Rattle.settings.specs.declared.settings.Settings.{Settings}
use Rattle.agreement.specs.Counting.{count}
use Rattle.packets.specs.Packets.{places_in, record_at}
use Rattle.packets.specs.Records.{fields_in}
use Rattle.packets.specs.declared.record.Fields.{Fields}
use Rattle.table.specs.Rules.{is_decided}
use Rattle.table.specs.declared.place.Place.{Place}
use Rattle.moves.specs.declared.state.State.{State}

-- A session: a hall's settings, the branch point that it settles, and who is honest.
pub record Session : Type 0 where
  pub settings : Settings
  pub branch : ℕ
  pub honest : ℕ → Bool

abbrev pub Honest : Session → ℕ → Type 0
Honest w i = w.honest i ≡ true

-- at most f of the n cabins are not honest
abbrev pub Fair : Session → Type 0
Fair w = count (λ j. not (w.honest j)) w.settings.cabins ≤ w.settings.faults

-- an open cabin and its table, as its last accepted call left them
pub record Seat : Type 0 where
  pub state : State
  pub table : List Place

-- What has happened to the honest cabins up to a moment of a session.
pub record Moment : Type 0 where
  -- each cabin and its table, once it is open
  pub seat : ℕ → Option Seat
  -- the choice that it was opened with
  pub choice : ℕ → Option ℕ
  -- announced j φ v: cabin j has announced value v in phase φ
  pub announced : ℕ → ℕ → ℕ → Bool
  -- the phase in which the hearing that gave a cabin its decision left it
  pub given : ℕ → Option ℕ

-- no cabin is open, and nothing is announced
abbrev pub beginning : Moment
beginning = record { seat = λ i. None; choice = λ i. None; announced = λ j φ v. false; given = λ i. None }

-- the same for all but i
abbrev pub put : {A : Type 0} → (ℕ → A) → ℕ → A → ℕ → A
put f i a j = cond (j == i) a (f j)

-- cabin i was opened with choice v, as c with the table t
abbrev pub after_open : Moment → ℕ → ℕ → State → List Place → Moment
after_open x i v c t = record {
  seat = put x.seat i (Some (record { state = c; table = t }));
  choice = put x.choice i (Some v);
  announced = x.announced;
  given = x.given;
}

-- what the last record of a packet says
abbrev pub last_said : List ℕ → Fields
last_said p = fields_in (record_at p (places_in p - 1))

-- cabin i, now c, wrote the packet p: it has announced the phase and value of the last record
abbrev pub after_announce : Moment → ℕ → State → List Place → List ℕ → Moment
after_announce x i c t p = record {
  seat = put x.seat i (Some (record { state = c; table = t }));
  choice = x.choice;
  announced = λ j φ v. (j == i && (φ == (last_said p).phase && v == (last_said p).value)) || x.announced j φ v;
  given = x.given;
}

-- a hearing that found no decision and left one gave it, and left the cabin in phase p
abbrev pub given_by : Option ℕ → Option ℕ → ℕ → Option ℕ → Option ℕ
given_by None (Some v) p before = Some p
given_by None None p before = before
given_by (Some u) after p before = before

-- cabin i, which was c, heard and is c' with the table t
abbrev pub after_hear : Moment → ℕ → State → State → List Place → Moment
after_hear x i c c' t = record {
  seat = put x.seat i (Some (record { state = c'; table = t }));
  choice = x.choice;
  announced = x.announced;
  given = put x.given i (given_by c.decision c'.decision c'.phase (x.given i));
}

-- what a cabin shows at a moment: its phase, 0 until it is open; whether its status is decided; its decision
abbrev pub phase_in : Option Seat → ℕ
phase_in None = 0
phase_in (Some seat) = seat.state.phase

abbrev pub decided_in : Option Seat → Bool
decided_in None = false
decided_in (Some seat) = is_decided seat.state.status

abbrev pub decision_in : Option Seat → Option ℕ
decision_in None = None
decision_in (Some seat) = seat.state.decision
