-- What the status rule and the laws of status rest on: catching up with a record, and leaving a DECIDE phase.
use Rattle.std.proofs.Common.{◌≡◌, ℕ, ◌+◌, ◌-◌, ◌%◌, ◌<◌, true, false, ◌&&◌, ltb, Some, arith}
use Rattle.std.proofs.lemmas.Bool.{and_parts, leb-true, ltb-true}
use Rattle.std.proofs.lemmas.Bool.Decides.{nat_tests}
use Rattle.agreement.specs.Rules.{Hall, QuorumFor, QuorumIn, Table, has_quorum, quorum, tally}
use Rattle.agreement.specs.Books.{Filled, FirstLaw, Within}
use Rattle.agreement.specs.History.{DecideQuorum, History, Honest, Laws}
use Rattle.agreement.specs.Status.{Split, Standing, StatusLaws, last_decide, status_rule}
use Rattle.agreement.proofs.Agreement.{decide_quorums_agree}
use Rattle.agreement.proofs.Tables.{course_backed, quorum_kept, turnout_other}

-- a decided record is beyond phase 3 and rests on a quorum in the last DECIDE phase
pub status_decided : (hall : Hall) (t : Table) (φ v : ℕ) → status_rule hall t φ v true ≡ true → (3 < φ) × DecideQuorum hall t (last_decide φ) v
status_decided hall t φ v met =
    let late = and_parts (ltb 3 φ) (ltb v hall.book.courses && has_quorum hall t (last_decide φ) v) met in
    let both = and_parts (ltb v hall.book.courses) (has_quorum hall t (last_decide φ) v) late.1 in
    (ltb-true 3 φ late.0, record { decide = omega arith; course = ltb-true v hall.book.courses both.0; enough = leb-true _ _ both.1 })

-- an undecided one beyond phase 3 rests on the book
pub status_undecided : (hall : Hall) (t : Table) (φ v : ℕ) → 3 < φ → status_rule hall t φ v false ≡ true → hall.book.undecided t φ ≡ true
status_undecided hall t φ v far met = grind (arith, nat_tests)

-- a quorum in DECIDE has one for the same course in the LOCK phase before: who catches up with such a record tosses no coin
pub decide_quorum_locked : (hall : Hall) (ever : Table) (d v : ℕ) → Filled hall ever → DecideQuorum hall ever d v → QuorumFor hall ever (d - 1) v
decide_quorum_locked hall ever d v filled rests =
    let one = quorum_kept hall ever d v rests.enough in
    course_backed hall ever filled d one.0 v rests.decide rests.course one.1

-- who leaves a DECIDE phase where no course has a quorum finds it split
pub leave_split : (hall : Hall) (ever t : Table) (d : ℕ) → Within t ever → QuorumIn hall t d → ((v : ℕ) → v < hall.book.courses → tally hall.cabins t d v < quorum hall) → Split hall ever d
leave_split hall ever t d within enough few v course =
    let other = turnout_other hall t d v (omega (arith, few v course)) in
    (other.0, other.1, within d other.0 other.1 other.3, other.4)

-- leaving a DECIDE phase makes it the last; leaving another phase moves the last DECIDE phase not
pub last_decide_after : (φ : ℕ) → φ % 3 ≡ 0 → last_decide (φ + 1) ≡ φ
last_decide_after φ e = omega arith

pub last_decide_same : (φ : ℕ) → (φ % 3 ≡ 0 → ⊥) → last_decide (φ + 1) ≡ last_decide φ
last_decide_same φ other = omega arith

-- the value of a cabin that has decided is its decision
pub decided_value : (hall : Hall) (H : History) (i : ℕ) → FirstLaw hall → Laws hall H → StatusLaws hall H → Standing hall H → Honest H i → H.decided i ≡ true → H.decision i ≡ Some (H.value i)
decided_value hall H i first laws status standing hi decided =
    let held = status.decided i hi decided in
    let rests = laws.rests i held.0 hi held.1 in
    let own = standing.decided i hi decided in
    let same = decide_quorums_agree hall H laws first i i rests.0 own.0 held.0 (H.value i) hi hi rests.2 own.2 in
    cc
