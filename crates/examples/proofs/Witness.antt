-- A session that decides: the three honest cabins of four announce and hear one another in phases 1 to 3.
use Rattle.std.proofs.Common.{◌≡◌, ℕ, zero, suc, ◌-◌, ◌<◌, ltb, List, [], ◌∷◌, ◌++◌, Some, refl, arith}
use Rattle.std.proofs.lemmas.Bool.{lt-ltb}
use Rattle.agreement.specs.Counting.{count, some}
use Rattle.agreement.specs.Rules.{tally, turnout}
use Rattle.agreement.specs.TwoWay.{two_way}
use Rattle.table.specs.Places.{records_at}
use Rattle.moves.specs.Hearing.{heard_to}
use Rattle.runs.specs.Laws.{Holds}
use Rattle.runs.specs.Runs.Run.{none}
use Rattle.runs.specs.Sessions.{Fair, Moment, Session, beginning}
use Rattle.examples.specs.Stage.{all_said, small_hall}
use Rattle.examples.specs.Witness.{Witness}
use Rattle.examples.proofs.Playing.{Call, played, run_played}
use Rattle.examples.proofs.Playing.Call.{opening, announcing, hearing}

-- at branch point 7; cabin 3 is not honest
abbrev session : Session
session = record { settings = small_hall; branch = 7; honest = λ j. ltb j 3 }

-- in a phase the three announce, and each hears the packet of what they said
abbrev phase : List ℕ → List Call
phase p = announcing 0 ∷ announcing 1 ∷ announcing 2 ∷ hearing 0 p ∷ hearing 1 p ∷ hearing 2 p ∷ []

-- cabin 0 is opened with the other course; from phase 2 on all three say v
abbrev calls : ℕ → List Call
calls v =
    opening 0 (1 - v) ∷ opening 1 v ∷ opening 2 v ∷ (phase (all_said 1 ((1 - v) ∷ v ∷ v ∷ [])) ++ (phase (all_said 2 (v ∷ v ∷ v ∷ [])) ++ phase (all_said 3 (v ∷ v ∷ v ∷ []))))

abbrev ending : ℕ → Moment
ending v = played session beginning (calls v)

-- after these calls each of the three holds the decision
holds : (v i : ℕ) → v < 2 → i < 3 → Holds (ending v) i v
unfolding heard_to records_at tally turnout count some two_way
holds zero zero course cabin = refl
holds zero (suc zero) course cabin = refl
holds zero (suc (suc zero)) course cabin = refl
holds zero (suc (suc (suc i))) course cabin = absurd (omega arith)
holds (suc zero) zero course cabin = refl
holds (suc zero) (suc zero) course cabin = refl
holds (suc zero) (suc (suc zero)) course cabin = refl
holds (suc zero) (suc (suc (suc i))) course cabin = absurd (omega arith)
holds (suc (suc v)) i course cabin = absurd (omega arith)

-- they were opened with both courses
chosen : (v : ℕ) → v < 2 → ((ending v).choice 0 ≡ Some (1 - v)) × ((ending v).choice 1 ≡ Some v)
unfolding heard_to records_at tally turnout count some two_way
chosen zero course = (refl, refl)
chosen (suc zero) course = (refl, refl)
chosen (suc (suc v)) course = absurd (omega arith)

-- three cabins are honest, so one is not
fair : Fair session
unfolding count
fair = omega arith

-- for each course there is a run that decides it
pub witness : (v : ℕ) → v < 2 → Witness v
witness v course = record {
  session = session;
  cabins = refl;
  faults = refl;
  fair = fair;
  honest = λ i cabin. lt-ltb i 3 cabin;
  faulty = refl;
  moment = ending v;
  run = run_played session beginning (calls v) none;
  other = (chosen v course).0;
  same = (chosen v course).1;
  held = λ i cabin. holds v i course cabin;
}
