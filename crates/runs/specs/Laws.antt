-- The laws of a hall, after every call of every run. Assumes nothing.
use Rattle.std.specs.Prelude.{◌≡◌, ℕ, ◌+◌, ◌<◌, ◌≤◌, true, List, take, Some, None, Ok, Err, Result}
use Rattle.settings.specs.declared.settings.Settings.{Settings}
use Rattle.table.specs.declared.place.Place.{Place}
use Rattle.moves.specs.Hearing.{Told}
use Rattle.moves.specs.Judging.{Check}
use Rattle.moves.specs.declared.state.State.{State}
use Rattle.runs.specs.Runs.{Authentic, Later, Run}
use Rattle.runs.specs.Sessions.{Fair, Honest, Moment, Session, after_announce, after_hear, after_open, decided_in, decision_in, phase_in}

-- cabin i holds the decision v
abbrev pub Holds : Moment → ℕ → ℕ → Type 0
Holds x i v = decision_in (x.seat i) ≡ Some v

-- cabin i has decided: its status is decided, and it holds a decision
pub record HasDecided (x : Moment) (i : ℕ) : Type 0 where
  pub status : decided_in (x.seat i) ≡ true
  pub course : ℕ
  pub decision : Holds x i course

-- every honest cabin that was opened so far had the choice v
abbrev pub OneChoice : Session → Moment → ℕ → Type 0
OneChoice w x v = (j u : ℕ) → Honest w j → x.choice j ≡ Some u → u ≡ v

-- What holds at a moment of a session.
pub record Safe (w : Session) (x : Moment) : Type 0 where
  -- all decisions that honest cabins hold are the same
  pub agree : (i j v u : ℕ) → Honest w i → Honest w j → Holds x i v → Holds x j u → v ≡ u
  -- where all chose v, no decision but v is held, and whoever is honest and beyond phase 3 has decided
  pub one_choice : (i v u : ℕ) → Honest w i → OneChoice w x v → Holds x i u → u ≡ v
  pub one_choice_decided : (i v : ℕ) → Honest w i → OneChoice w x v → 3 < phase_in (x.seat i) → HasDecided x i
  -- where an honest cabin came out of the hearing that gave it its decision in phase p, whoever is honest and has come to
  -- phase p + 3 has decided
  pub caught_up : (i j p : ℕ) → Honest w i → Honest w j → x.given i ≡ Some p → p + 3 ≤ phase_in (x.seat j) → HasDecided x j

-- a decision that an honest cabin holds at x it holds at y
abbrev pub DecisionsStay : Session → Moment → Moment → Type 0
DecisionsStay w x y = (i v : ℕ) → Honest w i → Holds x i v → Holds y i v

-- A hall never disagrees: after every call of every run of a fair session.
abbrev pub HallAgrees : Type 0
HallAgrees = (w : Session) → Fair w → (x : Moment) → Run w x → Safe w x × ((y : Moment) → Later w x y → DecisionsStay w x y)

-- the run that comes to x and goes on to y keeps the laws
pub record Keeps (w : Session) (x y : Moment) : Type 0 where
  pub run : Run w y
  pub safe : Safe w y
  pub stay : DecisionsStay w x y

-- the moment after an open of cabin i with choice v that told `answer` and left the table t
abbrev pub moment_opened : Moment → ℕ → ℕ → Result State ℕ → List Place → Moment
moment_opened x i v (Ok c) t = after_open x i v c t
moment_opened x i v (Err k) t = x

-- The law at an open: every run in which this cabin is not open goes on with this call and keeps the laws.
abbrev pub OpenKeeps : Settings → ℕ → ℕ → ℕ → Result State ℕ → List Place → Type 0
OpenKeeps s i b v answer t =
    (w : Session) → Fair w → w.settings ≡ s → w.branch ≡ b → Honest w i
    → (x : Moment) → Run w x → x.seat i ≡ None → Keeps w x (moment_opened x i v answer t)

-- the moment after an announce of cabin c that told `answer`, the packet's size, and left the cabin as c' and the buffer as `after`
abbrev pub moment_announced : Moment → State → State → List Place → Result ℕ ℕ → List ℕ → Moment
moment_announced x c c' t (Ok size) after = after_announce x c.number c' t (take size after)
moment_announced x c c' t (Err k) after = x

-- The law at an announce: every run that ends with this cabin and table goes on with this call and keeps the laws.
abbrev pub AnnounceKeeps : State → State → List Place → Result ℕ ℕ → List ℕ → Type 0
AnnounceKeeps c c' t answer after =
    (w : Session) → Fair w → Honest w c.number
    → (x : Moment) → Run w x → x.seat c.number ≡ Some (record { state = c; table = t }) → Keeps w x (moment_announced x c c' t answer after)

-- the moment after a hear of cabin c that told `answer` and left the cabin as c' and the table as t'
abbrev pub moment_heard : Moment → State → State → List Place → Result Told ℕ → Moment
moment_heard x c c' t' (Ok told) = after_hear x c.number c c' t'
moment_heard x c c' t' (Err k) = x

-- The law at a hear: the same, where the words of the packet are authentic.
abbrev pub HearKeeps : Check → State → State → List Place → List Place → List ℕ → Result Told ℕ → Type 0
HearKeeps check c c' t t' p answer =
    (w : Session) → Fair w → Honest w c.number
    → (x : Moment) → Run w x → x.seat c.number ≡ Some (record { state = c; table = t }) → Authentic w x c p check → Keeps w x (moment_heard x c c' t' answer)
