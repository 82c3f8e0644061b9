-- Whole runs: what holds at every moment, so the laws of a hall.
use Rattle.std.proofs.Common.{◌≡◌, ℕ, ◌≤◌, arith}
use Rattle.std.proofs.lemmas.Bool.{false≢true}
use Rattle.agreement.specs.Agreement.{OneChoice as OneChoiceIn}
use Rattle.agreement.specs.Books.{BookLaws}
use Rattle.agreement.specs.CatchingUp.{HasDecided as HasDecidedIn}
use Rattle.agreement.specs.History.{History, Laws}
use Rattle.agreement.specs.Rules.{Hall}
use Rattle.agreement.specs.TwoWay.{two_way}
use Rattle.agreement.proofs.Agreement.{decisions_agree}
use Rattle.agreement.proofs.CatchingUp.{caught_up, one_choice_decided}
use Rattle.agreement.proofs.TwoWay.{two_way_laws}
use Rattle.agreement.proofs.Validity.{one_choice_decides}
use Rattle.table.specs.Rules.{hall_of}
use Rattle.runs.specs.Laws.{DecisionsStay, HallAgrees, HasDecided, Keeps, OneChoice, Safe}
use Rattle.runs.specs.Runs.{Later, Run, Step, announce_refused, announces, hear_refused, hears, later, none, open_refused, opens, same, then}
use Rattle.runs.specs.Sessions.{Fair, Honest, Moment, Session, beginning, phase_in}
use Rattle.runs.proofs.Announcing.{announces_sound, announces_stay}
use Rattle.runs.proofs.Cases.{none_some}
use Rattle.runs.proofs.Hearing.{hears_well}
use Rattle.runs.proofs.Opening.{opens_sound, opens_stay}
use Rattle.runs.proofs.Seats.{GoesWell, Sound, history, history_laws, history_status_laws}

-- nothing has happened
beginning_sound : (w : Session) → Sound w beginning
beginning_sound w = record {
  each = λ i hi. record {
    seated = tt;
    filled = record { valid = λ φ j v e. absurd (false≢true e) };
    one_voice = λ φ v u e h. absurd (false≢true e);
    so_far = λ φ v e. absurd (false≢true e);
    present = λ v e. absurd (false≢true e);
    chosen = λ begun. absurd (omega arith);
    begins = λ e. absurd (omega arith);
    first = λ v e. absurd (false≢true e);
    rests = λ p e. absurd (none_some p e);
  };
  authentic = λ i hi j φ v hj e. absurd (false≢true e);
}

-- a refused call
stays_well : (w : Session) (x : Moment) → Sound w x → GoesWell w x x
stays_well w x sound = record { sound = sound; stay = λ i v hi e. e }

-- every call
step_well : (w : Session) → Fair w → (x y : Moment) → Sound w x → Step w x y → GoesWell w x y
step_well w fair _ _ sound (opens x i v t c hi closed answer) = record { sound = opens_sound w x i v t sound hi closed c answer; stay = opens_stay w x i v t sound hi closed c }
step_well w fair _ _ sound (announces x i size seat sealer buffer after hi there answer wrote) = record {
  sound = announces_sound w x i size seat.state seat.table sealer buffer after sound hi there answer wrote;
  stay = announces_stay w x i size seat.state seat.table sealer buffer after sound hi there;
}
step_well w fair _ _ sound (hears x i seat p bits check told hi there answer each authentic) = hears_well w x i seat p bits check fair sound hi there each authentic
step_well w fair _ _ sound (open_refused x s i b v k t refused) = stays_well w x sound
step_well w fair _ _ sound (announce_refused x c t sealer buffer k refused) = stays_well w x sound
step_well w fair _ _ sound (hear_refused x c t p bits check k refused) = stays_well w x sound

-- every run
run_sound : (w : Session) → Fair w → (x : Moment) → Run w x → Sound w x
run_sound w fair _ none = beginning_sound w
run_sound w fair _ (then x y run step) = (step_well w fair x y (run_sound w fair x run) step).sound

-- The laws at a moment at which all that holds.
module _ (w : Session) (fair : Fair w) (x : Moment) (sound : Sound w x) where
  abbrev hall : Hall
  hall = hall_of w.settings

  abbrev H : History
  H = history w x

  book : BookLaws hall
  book = two_way_laws w.settings.cabins w.settings.faults w.settings.third

  laws : Laws hall H
  laws = history_laws w x sound fair

  -- where an honest cabin is open, one choice is a course
  one_course : (i v : ℕ) → Honest w i → OneChoice w x v → 1 ≤ phase_in (x.seat i) → OneChoiceIn hall H v
  unfolding two_way
  one_course i v hi one begun =
      let own = (sound.each i hi).chosen begun in
      let same : own.0 ≡ v = one i own.0 hi own.2 in
      record { course = omega (arith, own.1); alone = λ j u hj e. one j u hj ((sound.each j hj).first u e) }

  -- the same of a history and of its moment
  has_decided : (i v : ℕ) → HasDecidedIn H i v → HasDecided x i
  has_decided i v has = record { status = has.status; course = v; decision = has.decision }

  -- by the agreement's theorems
  pub safe : Safe w x
  safe = record {
    agree = λ i j v u hi hj. decisions_agree hall H book.first laws i j v u hi hj;
    one_choice = λ i v u hi one held.
        one_choice_decides hall H book.first laws i v u (one_course i v hi one (omega (arith, (laws.rests i u hi held).1))) hi held;
    one_choice_decided = λ i v hi one far.
        has_decided i v (one_choice_decided hall H book.first book.undecided laws (history_status_laws w x sound) i v (one_course i v hi one (omega arith)) hi (omega arith));
    caught_up = λ i j p hi hj given far.
        let r = (sound.each i hi).rests p given in
        has_decided j r.1 (caught_up hall H book.first book.undecided laws (history_status_laws w x sound) i j r.0 r.1 hi hj r.3 (omega (arith, r.2)));
  }

-- a run goes on to each later moment
run_later : (w : Session) (x y : Moment) → Run w x → Later w x y → Run w y
run_later w x _ run same = run
run_later w x _ run (later y z way step) = then y z (run_later w x y run way) step

-- decisions stay, call by call
stay_later : (w : Session) → Fair w → (x y : Moment) → Run w x → Later w x y → DecisionsStay w x y
stay_later w fair x _ run same = λ i v hi e. e
stay_later w fair x _ run (later y z way step) =
    let before = stay_later w fair x y run way in
    let next = step_well w fair y z (run_sound w fair y (run_later w x y run way)) step in
    λ i v hi e. next.stay i v hi (before i v hi e)

-- the closed law
pub hall_agrees : HallAgrees
hall_agrees w fair x run = (safe w fair x (run_sound w fair x run), λ y way. stay_later w fair x y run way)

-- a run goes on with a call, and keeps the laws
pub run_keeps : (w : Session) → Fair w → (x y : Moment) → Run w x → Step w x y → Keeps w x y
run_keeps w fair x y run step =
    let well = step_well w fair x y (run_sound w fair x run) step in
    record { run = then x y run step; safe = safe w fair y well.sound; stay = well.stay }
