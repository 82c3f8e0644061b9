-- The two-way rule book keeps both laws.
use Rattle.std.proofs.Common.{◌≡◌, ℕ, ◌+◌, ◌-◌, ◌*◌, ◌%◌, ◌<◌, ◌≤◌, true, ltb, ◌⊎◌, subst, inl, inr, arith}
use Rattle.std.proofs.lemmas.Bool.{and_parts, cases_Bool, cases_eq, cond_both, le-leb, leb-true, ltb-true, ltb-false}
use Rattle.agreement.specs.Counting.{some}
use Rattle.agreement.specs.Rules.{Table, quorum, tally, turnout}
use Rattle.agreement.specs.Books.{BookLaws, Filled, FirstLaw, FirstLawUndecided, SecondLaw, Unanimous, Within}
use Rattle.agreement.specs.TwoWay.{both_held, has_weak_quorum, last_lock, two_way, two_way_hall}
use Rattle.agreement.proofs.Counting.{count_union, count_within, some_found}
use Rattle.agreement.proofs.Quorums.{weak_quorum_above, weak_quorum_larger}
use Rattle.agreement.proofs.Rules.{valid_course}
use Rattle.agreement.proofs.Tables.{kept_only, tally_member}
use Rattle.agreement.proofs.Unanimity.{unanimity_lasts}

module _ (n f : ℕ) (third : 3 * f < n) where
  -- a value that once had a weak quorum in a unanimous phase is v
  weak_quorum_only : (ever t : Table) (ψ v w : ℕ) → Unanimous (two_way_hall n f) ever ψ v → Within t ever → has_weak_quorum n f t ψ w ≡ true → w ≡ v
  unfolding tally
  weak_quorum_only ever t ψ v w u within enough =
      elim (cases_eq w v) [
        | inl same ↦ same
        | inr other ↦
            let few = count_within (λ j. t ψ j w) u.others n (λ j below e. u.rest j w (within ψ j w e) other) in
            let many = leb-true _ _ enough in
            absurd (omega (arith, weak_quorum_above n f third, u.few))
      ]

  -- of a weak quorum one record was kept
  weak_quorum_kept : (ever t : Table) (φ w : ℕ) → Within t ever → has_weak_quorum n f t φ w ≡ true → (j : ℕ) × (ever φ j w ≡ true)
  weak_quorum_kept ever t φ w within enough =
      let many = leb-true _ _ enough in
      let s = tally_member n t φ w (omega arith) in
      (s.0, within φ s.0 w s.2)

  -- another value in LOCK, and one of two courses for no preference, would need a weak quorum in the unanimous phase
  pub two_way_first : FirstLaw (two_way_hall n f)
  unfolding two_way
  two_way_first = record {
    lock = λ ever ψ v w filled u once. weak_quorum_only ever once.0 ψ v w u once.1 (subst (λ (φ : ℕ). has_weak_quorum n f once.0 φ w ≡ true) (omega arith) once.2);
    no_preference = λ ever ψ v filled u once.
        let both : both_held n f once.0 ψ ≡ true = subst (λ (φ : ℕ). both_held n f once.0 φ ≡ true) (omega arith) once.2 in
        let each = and_parts (has_weak_quorum n f once.0 ψ 0) (has_weak_quorum n f once.0 ψ 1) both in
        let zero_is : 0 ≡ v = weak_quorum_only ever once.0 ψ v 0 u once.1 each.0 in
        let one_is : 1 ≡ v = weak_quorum_only ever once.0 ψ v 1 u once.1 each.1 in
        omega arith;
  }

  -- undecided would need both courses in a later LOCK phase
  pub two_way_undecided : FirstLawUndecided (two_way_hall n f)
  unfolding two_way
  two_way_undecided = record {
    undecided = λ ever ψ v φ filled u far near once.
        let l : ℕ = last_lock φ in
        let only = unanimity_lasts (two_way_hall n f) ever filled two_way_first ψ l v u (omega (arith, u.converge)) in
        let each = and_parts (has_weak_quorum n f once.0 l 0) (has_weak_quorum n f once.0 l 1) once.2 in
        let a = weak_quorum_kept ever once.0 l 0 once.1 each.0 in
        let b = weak_quorum_kept ever once.0 l 1 once.1 each.1 in
        let zero_is : 0 ≡ v = kept_only (two_way_hall n f) ever filled l a.0 v 0 only a.1 in
        let one_is : 1 ≡ v = kept_only (two_way_hall n f) ever filled l b.0 v 1 only b.1 in
        omega arith;
  }

  -- in a CONVERGE phase every record is of one of the two courses
  turnout_two : (ever t : Table) (ψ : ℕ) → Filled (two_way_hall n f) ever → Within t ever → ψ % 3 ≡ 1 → turnout (two_way_hall n f) t ψ ≤ tally n t ψ 0 + tally n t ψ 1
  unfolding two_way turnout tally
  turnout_two ever t ψ filled within converge =
      count_union (λ j. t ψ j 0) (λ j. t ψ j 1) (λ j. some (t ψ j) 3) n (λ j below held. which j (some_found (t ψ j) 3 held))
    where
      which : (j : ℕ) → (w : ℕ) × (w < 3) × (t ψ j w ≡ true) → (t ψ j 0 ≡ true) ⊎ (t ψ j 1 ≡ true)
      which j s =
          let once = filled.valid ψ j s.0 (within ψ j s.0 s.2) in
          let course = valid_course (two_way_hall n f) once.0 ψ s.0 once.2 (λ e. omega arith) in
          elim (cases_eq s.0 0) [
            | inl e ↦ inl (subst (λ (w : ℕ). t ψ j w ≡ true) e s.2)
            | inr e ↦ inr (subst (λ (w : ℕ). t ψ j w ≡ true) (omega arith) s.2)
          ]

  -- the larger of two counts that make a quorum is a weak quorum
  pub two_way_second : SecondLaw (two_way_hall n f)
  unfolding two_way
  two_way_second = record {
    course = λ t ψ. cond_both (ltb (tally n t ψ 0) (tally n t ψ 1)) _ _ (λ w. w < 2) (λ _. omega arith) (λ _. omega arith);
    lock = λ ever t ψ filled within converge enough.
        let a : ℕ = tally n t ψ 0 in
        let b : ℕ = tally n t ψ 1 in
        let sum : quorum (two_way_hall n f) ≤ a + b = omega (arith, turnout_two ever t ψ filled within converge) in
        let back : ψ + 1 - 1 ≡ ψ = omega arith in
        elim (cases_Bool (ltb a b)) [
          | inl more ↦
              let larger = weak_quorum_larger (two_way_hall n f) b a (omega arith) (omega (arith, ltb-true a b more)) in
              rw (back, more) (le-leb _ _ (omega arith))
          | inr most ↦
              let larger = weak_quorum_larger (two_way_hall n f) a b sum (ltb-false a b most) in
              rw (back, most) (le-leb _ _ (omega arith))
        ];
  }

  pub two_way_laws : BookLaws (two_way_hall n f)
  two_way_laws = record { first = two_way_first; undecided = two_way_undecided; second = two_way_second }
