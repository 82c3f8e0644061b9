-- What the counts of a table say of its records, and of a table that has grown.
use Rattle.std.proofs.Common.{◌≡◌, ℕ, ◌+◌, ◌-◌, ◌%◌, ◌<◌, ◌≤◌, true, false, ◌⊎◌, subst, inl, inr, arith}
use Rattle.std.proofs.lemmas.Bool.{both_ways, cases_lt}
use Rattle.agreement.specs.Counting.{some}
use Rattle.agreement.specs.Rules.{Hall, QuorumFor, Table, is_valid, tally, turnout}
use Rattle.agreement.specs.Books.{Filled, Once, Unanimous, Within}
use Rattle.agreement.proofs.Counting.{count_member, count_more, count_none, count_within, some_found, some_from}
use Rattle.agreement.proofs.Rules.{valid_converge, valid_decide, valid_phase}

-- a table within another counts no more
pub tally_within : (n : ℕ) (t ever : Table) (φ v : ℕ) → Within t ever → tally n t φ v ≤ tally n ever φ v
unfolding tally
tally_within n t ever φ v within = count_within (λ j. t φ j v) (λ j. ever φ j v) n (λ j below. within φ j v)

pub turnout_within : (hall : Hall) (t ever : Table) (φ : ℕ) → Within t ever → turnout hall t φ ≤ turnout hall ever φ
unfolding turnout
turnout_within hall t ever φ within =
    count_within
    (λ j. some (t φ j) (hall.book.courses + 1))
    (λ j. some (ever φ j) (hall.book.courses + 1))
    hall.cabins
    (λ j below held. let s = some_found (t φ j) (hall.book.courses + 1) held in some_from (ever φ j) (hall.book.courses + 1) s.0 s.1 (within φ j s.0 s.2))

-- where cabins are counted, there is one
pub tally_member : (n : ℕ) (t : Table) (φ v : ℕ) → 1 ≤ tally n t φ v → (j : ℕ) × (j < n) × (t φ j v ≡ true)
unfolding tally
tally_member n t φ v more = count_member (λ j. t φ j v) n more

-- a value counts no more than all values
pub tally_turnout : (hall : Hall) (t : Table) (φ v : ℕ) → v ≤ hall.book.courses → tally hall.cabins t φ v ≤ turnout hall t φ
unfolding tally turnout
tally_turnout hall t φ v small =
    count_within (λ j. t φ j v) (λ j. some (t φ j) (hall.book.courses + 1)) hall.cabins (λ j below e. some_from (t φ j) (hall.book.courses + 1) v (omega arith) e)

-- where a value counts less than all, a record has another value
pub turnout_other : (hall : Hall) (t : Table) (φ v : ℕ) → tally hall.cabins t φ v < turnout hall t φ → (j : ℕ) × (w : ℕ) × (w ≤ hall.book.courses) × (t φ j w ≡ true) × (w ≡ v → ⊥)
unfolding tally turnout
turnout_other hall t φ v more =
    let one = count_more (λ j. some (t φ j) (hall.book.courses + 1)) (λ j. t φ j v) hall.cabins more in
    let held = some_found (t φ one.0) (hall.book.courses + 1) one.2 in
    (one.0, held.0, omega (arith, held.1), held.2, λ e. both_ways (t φ one.0 v) one.3 (subst (λ (w : ℕ). t φ one.0 w ≡ true) e held.2))

-- whatever was ever valid in phase φ has value v
abbrev pub Only : Hall → Table → ℕ → ℕ → Type 0
Only hall ever φ v = (w : ℕ) → Once ever (λ t. is_valid hall t φ w) → w ≡ v

-- a quorum that was counted once, in the same phase, is counted in all that was ever kept
pub quorum_once : (hall : Hall) (ever t : Table) (φ ψ v : ℕ) → Within t ever → φ ≡ ψ → QuorumFor hall t φ v → QuorumFor hall ever ψ v
quorum_once hall ever t φ ψ v within same enough =
    let grown = tally_within hall.cabins t ever φ v within in
    let here : QuorumFor hall ever φ v = omega arith in
    subst (λ (x : ℕ). QuorumFor hall ever x v) same here

-- of a quorum one record was kept
pub quorum_kept : (hall : Hall) (ever : Table) (φ v : ℕ) → QuorumFor hall ever φ v → (j : ℕ) × (ever φ j v ≡ true)
quorum_kept hall ever φ v enough = let s = tally_member hall.cabins ever φ v (omega arith) in (s.0, s.2)

-- a course that was once valid in a DECIDE phase has a quorum in the LOCK phase l before
pub decide_once : (hall : Hall) (ever : Table) (φ l w : ℕ) → φ ≡ l + 1 → φ % 3 ≡ 0 → (w ≡ hall.book.courses → ⊥) → Once ever (λ t. is_valid hall t φ w) → QuorumFor hall ever l w
decide_once hall ever φ l w after decide course once =
    quorum_once hall ever once.0 (φ - 1) l w once.1 (omega arith) (valid_decide hall once.0 φ w decide course once.2)

-- a value that was once valid in a CONVERGE phase has a quorum in the LOCK phase l before, or no preference has one in the
-- DECIDE phase d before
pub converge_once : (hall : Hall) (ever : Table) (φ l d w : ℕ) → φ ≡ l + 2 → φ ≡ d + 1 → φ % 3 ≡ 1 → Once ever (λ t. is_valid hall t φ w) → QuorumFor hall ever l w ⊎ QuorumFor hall ever d hall.book.courses
converge_once hall ever φ l d w after next converge once =
    elim (valid_converge hall once.0 φ w converge (λ e. omega arith) once.2) [
      | inl locked ↦ inl (quorum_once hall ever once.0 (φ - 2) l w once.1 (omega arith) locked)
      | inr none ↦ inr (quorum_once hall ever once.0 (φ - 1) d hall.book.courses once.1 (omega arith) none)
    ]

module _ (hall : Hall) (ever : Table) (filled : Filled hall ever) where
  -- what was kept was valid
  pub kept_only : (φ j v w : ℕ) → Only hall ever φ v → ever φ j w ≡ true → w ≡ v
  kept_only φ j v w only e = only w (filled.valid φ j w e)

  -- so was what a quorum was counted for
  pub quorum_valid : (φ v : ℕ) → QuorumFor hall ever φ v → Once ever (λ t. is_valid hall t φ v)
  quorum_valid φ v enough = let s = quorum_kept hall ever φ v enough in filled.valid φ s.0 v s.1

  -- a phase with one value is unanimous
  pub only_unanimous : (ψ v : ℕ) → ψ % 3 ≡ 1 → Only hall ever ψ v → Unanimous hall ever ψ v
  only_unanimous ψ v e only = record {
    converge = e;
    others = λ _. false;
    few = omega (arith, count_none hall.cabins);
    rest = λ j w h other. absurd (other (kept_only ψ j v w only h));
  }

  -- a course that was kept in a DECIDE phase d has a quorum in the LOCK phase before
  pub course_backed : (d j v : ℕ) → d % 3 ≡ 0 → v < hall.book.courses → ever d j v ≡ true → QuorumFor hall ever (d - 1) v
  course_backed d j v decide course kept =
      let once = filled.valid d j v kept in
      decide_once hall ever d (d - 1) v (omega (arith, valid_phase hall once.0 d v once.2)) decide (λ e. omega arith) once

  -- where only v was ever valid, all who were counted said v
  pub turnout_only : (t : Table) (φ v : ℕ) → Within t ever → Only hall ever φ v → turnout hall t φ ≤ tally hall.cabins t φ v
  turnout_only t φ v within only =
      elim (cases_lt (tally hall.cabins t φ v) (turnout hall t φ)) [
        | inl more ↦
            let other = turnout_other hall t φ v more in
            absurd (other.4 (kept_only φ other.0 v other.1 only (within φ other.0 other.1 other.3)))
        | inr same ↦ same
      ]
