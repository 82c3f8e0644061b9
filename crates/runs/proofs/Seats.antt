-- What holds of each honest cabin at every moment of a run, and the history that the agreement's theorems see there.
use Rattle.std.proofs.Common.{◌≡◌, ℕ, ◌<◌, ◌≤◌, Bool, true, false, ◌⊎◌, length, Some, None, Option, arith}
use Rattle.std.proofs.lemmas.Bool.{false≢true}
use Rattle.settings.specs.declared.settings.Settings.{Settings}
use Rattle.agreement.specs.Rules.{Hall, Table}
use Rattle.agreement.specs.Books.{Filled}
use Rattle.agreement.specs.History.{DecideQuorum, History, Laws}
use Rattle.agreement.specs.Status.{OpenAfter, Split, StatusLaws, last_decide}
use Rattle.table.specs.Places.{places_of, records_of}
use Rattle.table.specs.Rules.{hall_of, is_decided}
use Rattle.runs.specs.Laws.{DecisionsStay}
use Rattle.runs.specs.Sessions.{Fair, Honest, Moment, Seat, Session, decided_in, decision_in, phase_in}
use Rattle.runs.proofs.Cases.{none_some}
use Rattle.runs.proofs.Sound.{Stands}

-- the value of a cabin, 0 until it is open
abbrev pub value_in : Option Seat → ℕ
value_in None = 0
value_in (Some seat) = seat.state.value

-- the records of its table, none until it is open
abbrev pub kept_in : Settings → Option Seat → Table
kept_in s None = λ φ j v. false
kept_in s (Some seat) = records_of s seat.table

-- an open cabin is one of its session, and stands soundly
pub record Seated (w : Session) (i : ℕ) (seat : Seat) : Type 0 where
  pub settings_is : seat.state.settings ≡ w.settings
  pub branch_is : seat.state.branch ≡ w.branch
  pub number_is : seat.state.number ≡ i
  pub size : length seat.table ≡ places_of w.settings
  pub stands : Stands (hall_of w.settings) (records_of w.settings seat.table) seat.state.phase seat.state.value (is_decided seat.state.status) seat.state.decision

-- a cabin that is not open owes nothing
abbrev pub SeatedIn : Session → ℕ → Option Seat → Type 0
SeatedIn w i None = Unit {0}
SeatedIn w i (Some seat) = Seated w i seat

-- what holds of the honest cabin i: its seat, its choice, what it announced, and the phase in which it was given its decision
pub record CabinSound (w : Session) (i : ℕ) (seat : Option Seat) (choice : Option ℕ) (said : ℕ → ℕ → Bool) (given : Option ℕ) : Type 0 where
  pub seated : SeatedIn w i seat
  pub filled : Filled (hall_of w.settings) (kept_in w.settings seat)
  -- one voice
  pub one_voice : (φ v u : ℕ) → said φ v ≡ true → said φ u ≡ true → v ≡ u
  pub so_far : (φ v : ℕ) → said φ v ≡ true → φ ≤ phase_in seat
  pub present : (v : ℕ) → said (phase_in seat) v ≡ true → v ≡ value_in seat
  -- once open it has a choice, its value in phase 1
  pub chosen : 1 ≤ phase_in seat → (v : ℕ) × (v ≤ 1) × (choice ≡ Some v)
  pub begins : phase_in seat ≡ 1 → choice ≡ Some (value_in seat)
  pub first : (v : ℕ) → said 1 v ≡ true → choice ≡ Some v
  -- the decision that it was given rests on a quorum
  pub rests : (p : ℕ) → given ≡ Some p → (d : ℕ) × (v : ℕ) × (d < p) × DecideQuorum (hall_of w.settings) (kept_in w.settings seat) d v

-- what holds of it at a moment
abbrev pub SoundAt : Session → Moment → ℕ → Type 0
SoundAt w x i = CabinSound w i (x.seat i) (x.choice i) (x.announced i) (x.given i)

-- what holds at a moment
pub record Sound (w : Session) (x : Moment) : Type 0 where
  pub each : (i : ℕ) → Honest w i → SoundAt w x i
  -- what an honest cabin kept in the name of an honest one, that one announced
  pub authentic : (i : ℕ) → Honest w i → (j φ v : ℕ) → Honest w j → kept_in w.settings (x.seat i) φ j v ≡ true → x.announced j φ v ≡ true

-- a call led from x to y: all holds there, and decisions stay
pub record GoesWell (w : Session) (x y : Moment) : Type 0 where
  pub sound : Sound w y
  pub stay : DecisionsStay w x y

-- the history of a moment
abbrev pub history : Session → Moment → History
history w x = record {
  honest = w.honest;
  kept = λ i. kept_in w.settings (x.seat i);
  announced = x.announced;
  phase = λ i. phase_in (x.seat i);
  value = λ i. value_in (x.seat i);
  decided = λ i. decided_in (x.seat i);
  decision = λ i. decision_in (x.seat i);
}

-- what a decision and a status rest on, whether the cabin is open or not
record Rests (hall : Hall) (ever : Table) (seat : Option Seat) : Type 0 where
  rests : (v : ℕ) → decision_in seat ≡ Some v → (d : ℕ) × (d < phase_in seat) × DecideQuorum hall ever d v
  held : decided_in seat ≡ true → (v : ℕ) × (decision_in seat ≡ Some v)
  undecided : decided_in seat ≡ false → 3 < phase_in seat → Split hall ever (last_decide (phase_in seat)) ⊎ OpenAfter hall ever (last_decide (phase_in seat))

-- they follow from where it stands
rests_in : (w : Session) (i : ℕ) (seat : Option Seat) → SeatedIn w i seat → Rests (hall_of w.settings) (kept_in w.settings seat) seat
rests_in w i None seated = record { rests = λ v e. absurd (none_some v e); held = λ e. absurd (false≢true e); undecided = λ e far. absurd (omega arith) }
rests_in w i (Some seat) seated = record { rests = seated.stands.rests; held = seated.stands.held; undecided = seated.stands.undecided }

module _ (w : Session) (x : Moment) (sound : Sound w x) where
  resting : (i : ℕ) → Honest w i → Rests (hall_of w.settings) (kept_in w.settings (x.seat i)) (x.seat i)
  resting i hi = rests_in w i (x.seat i) (sound.each i hi).seated

  -- the laws of a history hold of it
  pub history_laws : Fair w → Laws (hall_of w.settings) (history w x)
  history_laws fair = record {
    few = fair;
    authentic = λ i j φ v hi hj e. sound.authentic i hi j φ v hj e;
    one_voice = λ j φ v u hj. (sound.each j hj).one_voice φ v u;
    so_far = λ j φ v hj. (sound.each j hj).so_far φ v;
    present = λ j v hj. (sound.each j hj).present v;
    filled = λ i hi. (sound.each i hi).filled;
    rests = λ i v hi. (resting i hi).rests v;
  }

  -- and those that speak of status
  pub history_status_laws : StatusLaws (hall_of w.settings) (history w x)
  history_status_laws = record { decided = λ i hi. (resting i hi).held; undecided = λ i hi. (resting i hi).undecided }
