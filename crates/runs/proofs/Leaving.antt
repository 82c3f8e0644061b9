-- Leaving a phase with a quorum: a cabin stands soundly in the next phase.
use Rattle.std.proofs.Common.{◌≡◌, ℕ, ◌+◌, ◌%◌, ◌<◌, ◌≤◌, Bool, true, false, cond, ◌||◌, eqb, leb, ◌⊎◌, sym, subst, inl, inr, arith}
use Rattle.std.proofs.lemmas.Bool.{and_from, and_left, and_right, cases_Bool, cases_eq, cond_both, eq-eqb, le-leb, leb-false, leb-true, lt-leb, ne_eqb, or_cases, or_left, or_right, true≢false}
use Rattle.settings.specs.Kinds.{kind_of}
use Rattle.settings.specs.declared.kind.PhaseKind.{PhaseKind}
use Rattle.settings.specs.declared.kind.PhaseKind.TheVariants.{Converge, Lock, Decide}
use Rattle.agreement.specs.Counting.{some}
use Rattle.agreement.specs.Rules.{Hall, QuorumFor, QuorumIn, Table, has_quorum, is_valid, quorum, tally, turnout}
use Rattle.agreement.specs.Books.{Filled, Once, Within}
use Rattle.agreement.specs.History.{DecideQuorum}
use Rattle.agreement.specs.Status.{OpenAfter, Split, last_decide}
use Rattle.agreement.specs.TwoWay.{two_way, two_way_hall}
use Rattle.agreement.proofs.Counting.{count_union, some_found}
use Rattle.agreement.proofs.Leaving.{converge_valid, leave_converge, leave_decide, leave_lock, leave_lock_open}
use Rattle.agreement.proofs.Rules.{kind_converge, kind_decide, kind_lock}
use Rattle.agreement.proofs.Status.{last_decide_after, last_decide_same, leave_split}
use Rattle.agreement.proofs.Tables.{Only, quorum_kept, tally_member}
use Rattle.agreement.proofs.TwoWay.{two_way_second}
use Rattle.table.specs.Rules.{count_for, hall_of, is_decided}
use Rattle.moves.specs.Moving.{leave_status, leave_tosses, leave_value}
use Rattle.moves.specs.declared.state.State.{State}
use Rattle.runs.proofs.Settling.{Poised}

-- after a quorum for a course in a DECIDE phase only that course was ever valid
abbrev pub Lasting : Hall → Table → Type 0
Lasting hall ever = (d φ v : ℕ) → DecideQuorum hall ever d v → d < φ → Only hall ever φ v

-- all records are within themselves
whole : (t : Table) → Within t t
whole t φ j v e = e

-- every record of a phase counts for one of three values
turnout_three : (n f : ℕ) (t : Table) (φ : ℕ) → turnout (two_way_hall n f) t φ ≤ tally n t φ 0 + tally n t φ 1 + tally n t φ 2
unfolding two_way turnout tally
turnout_three n f t φ =
    let two = count_union (λ j. t φ j 1) (λ j. t φ j 2) (λ j. t φ j 1 || t φ j 2) n (λ j _ held. or_cases (t φ j 1) (t φ j 2) held) in
    let three = count_union (λ j. t φ j 0) (λ j. t φ j 1 || t φ j 2) (λ j. some (t φ j) 3) n (λ j _ held. which j (some_found (t φ j) 3 held)) in
    omega arith
  where
    which : (j : ℕ) → (w : ℕ) × (w < 3) × (t φ j w ≡ true) → (t φ j 0 ≡ true) ⊎ ((t φ j 1 || t φ j 2) ≡ true)
    which j s =
        elim (cases_eq s.0 0) [
          | inl zero_is ↦ inl (subst (λ (w : ℕ). t φ j w ≡ true) zero_is s.2)
          | inr above ↦ elim (cases_eq s.0 1) [
            | inl one_is ↦ inr (or_left (t φ j 1) (t φ j 2) (subst (λ (w : ℕ). t φ j w ≡ true) one_is s.2))
            | inr other ↦ inr (or_right (t φ j 1) (t φ j 2) (subst (λ (w : ℕ). t φ j w ≡ true) (omega (arith, s.1)) s.2))
          ]
        ]

-- A cabin stands soundly in phase φ with value v.
module _ (hall : Hall) (ever : Table) (lasting : Lasting hall ever) (φ v : ℕ) (decided : Bool) (poised : Poised hall ever φ v decided) where
  -- with a valid value in the next phase; where the status is decided, that is the value it had
  steps : (w : ℕ) → Once ever (λ t. is_valid hall t (φ + 1) w) → (decided ≡ false → 3 < φ + 1 → Split hall ever (last_decide (φ + 1)) ⊎ OpenAfter hall ever (last_decide (φ + 1))) → Poised hall ever (φ + 1) w decided
  steps w valid undecided = record {
    begun = omega arith;
    valid = valid;
    backed = λ e.
        let b = poised.backed e in
        let same = lasting b.0 (φ + 1) v b.2 (omega (arith, b.1)) w valid in
        (b.0, omega (arith, b.1), subst (λ (x : ℕ). DecideQuorum hall ever b.0 x) (sym same) b.2);
    undecided = undecided;
  }

  -- from CONVERGE and LOCK: the last DECIDE phase stays
  pub steps_on : (w : ℕ) → (φ % 3 ≡ 0 → ⊥) → Once ever (λ t. is_valid hall t (φ + 1) w) → Poised hall ever (φ + 1) w decided
  steps_on w other valid =
      steps w valid (λ e far.
      subst (λ (d : ℕ). Split hall ever d ⊎ OpenAfter hall ever d) (sym (last_decide_same φ other)) (poised.undecided e (omega arith)))

  -- from DECIDE without a quorum for a course: the phase is split
  pub steps_open : (w : ℕ) → φ % 3 ≡ 0 → QuorumIn hall ever φ → ((u : ℕ) → u < hall.book.courses → tally hall.cabins ever φ u < quorum hall) → Once ever (λ t. is_valid hall t (φ + 1) w) → Poised hall ever (φ + 1) w decided
  steps_open w decide enough few valid =
      steps w valid (λ _ _. inl (subst (λ (d : ℕ). Split hall ever d) (sym (last_decide_after φ decide)) (leave_split hall ever ever φ (whole ever) enough few)))

-- from DECIDE with a quorum for a course: decided
pub steps_decided : (hall : Hall) (ever : Table) (φ w : ℕ) → Filled hall ever → QuorumIn hall ever φ → DecideQuorum hall ever φ w → Poised hall ever (φ + 1) w true
steps_decided hall ever φ w filled enough rests =
    let one = quorum_kept hall ever φ w rests.enough in
    record {
      begun = omega arith;
      valid = (ever, whole ever, leave_decide hall ever φ one.0 w filled rests.decide rests.course one.1 enough);
      backed = λ _. (φ, omega arith, rests);
      undecided = λ e _. absurd (true≢false e);
    }

-- The cabin c has a quorum in its phase.
module _ (c : State) (ever : Table) (filled : Filled (hall_of c.settings) ever) (lasting : Lasting (hall_of c.settings) ever) (poised : Poised (hall_of c.settings) ever c.phase c.value (is_decided c.status)) (enough : QuorumIn (hall_of c.settings) ever c.phase) where
  -- from CONVERGE with the majority
  left_converge : c.phase % 3 ≡ 1 → Poised (hall_of c.settings) ever (c.phase + 1) (leave_value Converge c ever) (is_decided c.status)
  unfolding two_way
  left_converge converge =
      let hall : Hall = hall_of c.settings in
      let second = two_way_second c.settings.cabins c.settings.faults c.settings.third in
      let picked = leave_converge hall ever ever c.phase second filled (whole ever) converge enough in
      steps_on hall ever lasting c.phase c.value (is_decided c.status) poised (leave_value Converge c ever) (λ e. omega arith) (ever, whole ever, picked)

  -- from LOCK a course that has a quorum is valid, and where none has one no preference is
  lock_valid : c.phase % 3 ≡ 2 → is_valid (hall_of c.settings) ever (c.phase + 1) (leave_value Lock c ever) ≡ true
  unfolding two_way
  lock_valid lock =
      cond_both
      (has_quorum hall ever φ 0)
      0
      (cond (has_quorum hall ever φ 1) 1 2)
      Valid
      (λ held. leave_lock hall ever φ 0 lock (omega arith) (leb-true _ _ held))
      (λ few_zero. cond_both (has_quorum hall ever φ 1) 1 2 Valid (λ held. leave_lock hall ever φ 1 lock (omega arith) (leb-true _ _ held)) (neither few_zero))
    where
      hall : Hall
      hall = hall_of c.settings

      φ : ℕ
      φ = c.phase

      Valid : ℕ → Type 0
      Valid w = is_valid hall ever (φ + 1) w ≡ true

      neither : has_quorum hall ever φ 0 ≡ false → has_quorum hall ever φ 1 ≡ false → Valid 2
      neither few_zero few_one =
          leave_lock_open c.settings.cabins c.settings.faults ever ever φ filled (whole ever) lock enough (leb-false _ _ few_zero) (leb-false _ _ few_one)

  left_lock : c.phase % 3 ≡ 2 → Poised (hall_of c.settings) ever (c.phase + 1) (leave_value Lock c ever) (is_decided c.status)
  left_lock lock =
      steps_on (hall_of c.settings) ever lasting c.phase c.value (is_decided c.status) poised (leave_value Lock c ever) (λ e. omega arith) (ever, whole ever, lock_valid lock)

  -- from DECIDE without a quorum for a course: one that was said has its quorum in LOCK; where none was said, no preference
  -- has a quorum, so any course is valid
  open_valid : (bit : ℕ) → bit < 2 → c.phase % 3 ≡ 0 → is_valid (hall_of c.settings) ever (c.phase + 1) (cond (leave_tosses Decide c ever) bit (cond (leb 1 (count_for c.settings ever c.phase 0)) 0 1)) ≡ true
  unfolding two_way
  open_valid bit small decide =
      let hall : Hall = hall_of c.settings in
      let n : ℕ = c.settings.cabins in
      let φ : ℕ = c.phase in
      let zeros : ℕ = tally n ever φ 0 in
      let ones : ℕ = tally n ever φ 1 in
      elim (cases_eq zeros 0) [
        | inr some_zero ↦
            let one = tally_member n ever φ 0 (omega arith) in
            let no_toss = and_left (eqb zeros 0) (eqb ones 0) (ne_eqb zeros 0 some_zero) in
            rw (no_toss, le-leb 1 zeros (omega arith)) (leave_decide hall ever φ one.0 0 filled decide (omega arith) one.2 enough)
        | inl no_zero ↦ elim (cases_eq ones 0) [
          | inr some_one ↦
              let one = tally_member n ever φ 1 (omega arith) in
              let no_toss = and_right (eqb zeros 0) (eqb ones 0) (ne_eqb ones 0 some_one) in
              rw (no_toss, lt-leb 1 zeros (omega arith)) (leave_decide hall ever φ one.0 1 filled decide (omega arith) one.2 enough)
          | inl no_one ↦
              let toss = and_from (eqb zeros 0) (eqb ones 0) (eq-eqb zeros 0 no_zero) (eq-eqb ones 0 no_one) in
              let none : QuorumFor hall ever φ 2 = omega (arith, turnout_three n c.settings.faults ever φ) in
              rw toss (converge_valid hall ever φ bit decide small enough (inr none))
        ]
      ]

  -- from DECIDE: decided with a course that has a quorum, else with a course that is valid
  left_decide : (bit : ℕ) → bit < 2 → c.phase % 3 ≡ 0 → Poised (hall_of c.settings) ever (c.phase + 1) (cond (leave_tosses Decide c ever) bit (leave_value Decide c ever)) (is_decided (leave_status Decide c ever))
  unfolding two_way
  left_decide bit small decide =
      let hall : Hall = hall_of c.settings in
      let φ : ℕ = c.phase in
      let zeros : ℕ = tally c.settings.cabins ever φ 0 in
      let ones : ℕ = tally c.settings.cabins ever φ 1 in
      elim (cases_Bool (has_quorum hall ever φ 0)) [
        | inl zero_held ↦
            let many : QuorumFor hall ever φ 0 = leb-true _ _ zero_held in
            let no_toss = and_left (eqb zeros 0) (eqb ones 0) (ne_eqb zeros 0 (λ e. omega arith)) in
            rw (no_toss, zero_held) (steps_decided hall ever φ 0 filled enough (record { decide = decide; course = omega arith; enough = many }))
        | inr few_zero ↦ elim (cases_Bool (has_quorum hall ever φ 1)) [
          | inl one_held ↦
              let many : QuorumFor hall ever φ 1 = leb-true _ _ one_held in
              let no_toss = and_right (eqb zeros 0) (eqb ones 0) (ne_eqb ones 0 (λ e. omega arith)) in
              rw (no_toss, few_zero, one_held) (steps_decided hall ever φ 1 filled enough (record { decide = decide; course = omega arith; enough = many }))
          | inr few_one ↦
              let few : (u : ℕ) → u < 2 → tally c.settings.cabins ever φ u < quorum hall = λ u below. elim (cases_eq u 0) [
                | inl e ↦ rw e (leb-false _ _ few_zero)
                | inr above ↦ let e : u ≡ 1 = omega arith in rw e (leb-false _ _ few_one)
              ] in
              rw (few_zero, few_one) (steps_open hall ever lasting φ c.value (is_decided c.status) poised _ decide enough few (ever, whole ever, open_valid bit small decide))
        ]
      ]

  -- from a phase of any kind
  pub left_poised : (bit : ℕ) → bit < 2 → Poised (hall_of c.settings) ever (c.phase + 1) (cond (leave_tosses (kind_of c.phase) c ever) bit (leave_value (kind_of c.phase) c ever)) (is_decided (leave_status (kind_of c.phase) c ever))
  left_poised bit small =
      elim (cases_eq (c.phase % 3) 1) [
        | inl converge ↦ subst Left (sym (kind_converge c.phase converge)) (left_converge converge)
        | inr not_converge ↦ elim (cases_eq (c.phase % 3) 2) [
          | inl lock ↦ subst Left (sym (kind_lock c.phase lock)) (left_lock lock)
          | inr not_lock ↦ let decide : c.phase % 3 ≡ 0 = omega arith in subst Left (sym (kind_decide c.phase decide)) (left_decide bit small decide)
        ]
      ]
    where
      Left : PhaseKind → Type 0
      Left k = Poised (hall_of c.settings) ever (c.phase + 1) (cond (leave_tosses k c ever) bit (leave_value k c ever)) (is_decided (leave_status k c ever))
