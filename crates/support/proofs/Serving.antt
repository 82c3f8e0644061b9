-- How a pass serves a rule: what it adds is recent and little, and the rule carries over to what is chosen.
use Rattle.std.proofs.Common.{◌≡◌, ℕ, ◌+◌, ◌-◌, ◌<◌, ◌≤◌, Bool, true, false, ◌||◌, eqb, leb, List, sym, subst, inl, inr, arith}
use Rattle.std.proofs.lemmas.Bool.{and_from, and_parts, both_ways, eq-eqb, le-leb, leb-true, lt-leb, ne_eqb, or_cases, or_left, or_right}
use Rattle.settings.specs.Bounds.{quorum_of, weak_quorum_of}
use Rattle.settings.specs.Kinds.{kind_of}
use Rattle.settings.specs.declared.kind.PhaseKind.{PhaseKind}
use Rattle.settings.specs.declared.kind.PhaseKind.TheVariants.{Converge, Lock, Decide}
use Rattle.settings.specs.declared.settings.Settings.{Settings}
use Rattle.settings.specs.declared.status.Status.{Status}
use Rattle.settings.specs.declared.status.Status.TheVariants.{Undecided}
use Rattle.agreement.specs.Books.{Within}
use Rattle.agreement.specs.Rules.{Table, has_quorum, tally, value_rule_in}
use Rattle.agreement.specs.TwoWay.{both_held, has_weak_quorum, last_lock, two_way}
use Rattle.table.specs.Places.{records_of}
use Rattle.table.specs.Rules.{hall_of, meets_status, meets_value}
use Rattle.table.specs.declared.place.Place.{Place}
use Rattle.support.specs.Passes.{Adds, Carries, EnoughFor, Serves, most_quorum, most_rule}
use Rattle.support.proofs.Copying.{adds_wider, adds_within}

-- the quorums of every hall
quorum_small : (s : Settings) → quorum_of s.cabins s.faults ≤ most_quorum
quorum_small s = omega arith

weak_quorum_small : (s : Settings) → weak_quorum_of s.cabins s.faults + weak_quorum_of s.cabins s.faults ≤ most_rule
weak_quorum_small s = omega arith

-- a count that carries over
carries_for : (s : Settings) (t m : List Place) (φ v k : ℕ) → EnoughFor s t m φ v k → Carries s t m (λ u. leb k (tally s.cabins u φ v))
carries_for s t m φ v k enough u within e = le-leb k (tally s.cabins u φ v) (enough u within (leb-true k (tally s.cabins (records_of s t) φ v) e))

-- a rule that carries over to some records carries over to more
pub carries_more : (s : Settings) (t m m' : List Place) (rule : Table → Bool) → Within (records_of s m) (records_of s m') → Carries s t m rule → Carries s t m' rule
carries_more s t m m' rule grown carries u within = carries u (λ φ j v e. within φ j v (grown φ j v e))

module _ (s : Settings) (t m m' : List Place) (φ ψ : ℕ) where
  -- one phase ψ of the three before φ
  recent : (b b' : ℕ) → φ - 3 ≤ ψ → ψ ≤ φ - 1 → b ≤ b' → Adds s t ψ ψ b m m' → Adds s t (φ - 3) (φ - 1) b' m m'
  recent b b' low high few = adds_wider s t ψ ψ b (φ - 3) (φ - 1) b' m m' low high few

  -- a value rule by the kind of its phase
  by_kind : (K : PhaseKind) (v : ℕ) → K ≡ kind_of φ → Carries s t m' (λ u. value_rule_in K (hall_of s) u φ v) → Carries s t m' (λ u. meets_value s u φ v)
  by_kind K v is carries u within e =
      subst (λ (x : PhaseKind). value_rule_in x (hall_of s) u φ v ≡ true) is
      (carries u within (subst (λ (x : PhaseKind). value_rule_in x (hall_of s) (records_of s t) φ v ≡ true) (sym is) e))

  carries_quorum : (v k : ℕ) → k ≡ quorum_of s.cabins s.faults → EnoughFor s t m' ψ v k → Carries s t m' (λ u. has_quorum (hall_of s) u ψ v)
  carries_quorum v k is enough = subst (λ (x : ℕ). Carries s t m' (λ u. leb x (tally s.cabins u ψ v))) is (carries_for s t m' ψ v k enough)

  carries_lock : (v k : ℕ) → ψ ≡ φ - 1 → k ≡ weak_quorum_of s.cabins s.faults → EnoughFor s t m' ψ v k → Carries s t m' (λ u. value_rule_in Lock (hall_of s) u φ v)
  unfolding two_way
  carries_lock v k before is enough =
      subst (λ (x : ℕ). Carries s t m' (λ u. has_weak_quorum s.cabins s.faults u x v)) before
      (subst (λ (x : ℕ). Carries s t m' (λ u. leb x (tally s.cabins u ψ v))) is (carries_for s t m' ψ v k enough))

  pub serves_lock : (v k : ℕ) → Lock ≡ kind_of φ → ψ ≡ φ - 1 → k ≡ weak_quorum_of s.cabins s.faults → Adds s t ψ ψ k m m' → EnoughFor s t m' ψ v k → Serves s t φ most_rule (λ u. meets_value s u φ v) m m'
  serves_lock v k kind before is adds enough = record {
    adds = recent k most_rule (omega arith) (omega arith) (omega (arith, weak_quorum_small s)) adds;
    carries = by_kind Lock v kind (carries_lock v k before is enough);
  }

  carries_decide : (v : ℕ) → ψ ≡ φ - 1 → (v ≡ 2 → ⊥) → Carries s t m' (λ u. has_quorum (hall_of s) u ψ v) → Carries s t m' (λ u. value_rule_in Decide (hall_of s) u φ v)
  unfolding two_way
  carries_decide v before course carries = rw (ne_eqb v 2 course, ← before) carries

  pub serves_decide : (v k : ℕ) → Decide ≡ kind_of φ → ψ ≡ φ - 1 → (v ≡ 2 → ⊥) → k ≡ quorum_of s.cabins s.faults → Adds s t ψ ψ k m m' → EnoughFor s t m' ψ v k → Serves s t φ most_rule (λ u. meets_value s u φ v) m m'
  serves_decide v k kind before course is adds enough = record {
    adds = recent k most_rule (omega arith) (omega arith) (omega (arith, quorum_small s)) adds;
    carries = by_kind Decide v kind (carries_decide v before course (carries_quorum v k is enough));
  }

  carries_none : (v : ℕ) → ψ ≡ φ - 2 → v ≡ 2 → Carries s t m' (λ u. both_held s.cabins s.faults u ψ) → Carries s t m' (λ u. value_rule_in Decide (hall_of s) u φ v)
  unfolding two_way
  carries_none v second none carries = rw (eq-eqb v 2 none, ← second) carries

  pub serves_none : (v : ℕ) → Decide ≡ kind_of φ → ψ ≡ φ - 2 → v ≡ 2 → Adds s t ψ ψ most_rule m m' → Carries s t m' (λ u. both_held s.cabins s.faults u ψ) → Serves s t φ most_rule (λ u. meets_value s u φ v) m m'
  serves_none v kind second none adds carries = record {
    adds = recent most_rule most_rule (omega arith) (omega arith) (omega arith) adds;
    carries = by_kind Decide v kind (carries_none v second none carries);
  }

  -- a CONVERGE phase, where no preference has a quorum in the phase before
  carries_before : (v : ℕ) → ψ ≡ φ - 1 → has_quorum (hall_of s) (records_of s t) ψ 2 ≡ true → Carries s t m' (λ u. has_quorum (hall_of s) u ψ 2) → Carries s t m' (λ u. value_rule_in Converge (hall_of s) u φ v)
  unfolding two_way
  carries_before v before met carries u within e =
      or_right (eqb φ 1) (has_quorum (hall_of s) u (φ - 2) v || has_quorum (hall_of s) u (φ - 1) 2)
      (or_right (has_quorum (hall_of s) u (φ - 2) v) (has_quorum (hall_of s) u (φ - 1) 2)
      (subst (λ (x : ℕ). has_quorum (hall_of s) u x 2 ≡ true) before (carries u within met)))

  pub serves_before : (v k : ℕ) → Converge ≡ kind_of φ → ψ ≡ φ - 1 → k ≡ quorum_of s.cabins s.faults → true ≡ has_quorum (hall_of s) (records_of s t) ψ 2 → Adds s t ψ ψ k m m' → EnoughFor s t m' ψ 2 k → Serves s t φ most_rule (λ u. meets_value s u φ v) m m'
  serves_before v k kind before is met adds enough = record {
    adds = recent k most_rule (omega arith) (omega arith) (omega (arith, quorum_small s)) adds;
    carries = by_kind Converge v kind (carries_before v before (sym met) (carries_quorum 2 k is enough));
  }

  -- and where it has none
  carries_second : (v : ℕ) → ψ ≡ φ - 2 → has_quorum (hall_of s) (records_of s t) (φ - 1) 2 ≡ false → Carries s t m' (λ u. has_quorum (hall_of s) u ψ v) → Carries s t m' (λ u. value_rule_in Converge (hall_of s) u φ v)
  unfolding two_way
  carries_second v second missed carries u within e =
      elim (or_cases (eqb φ 1) (has_quorum (hall_of s) (records_of s t) (φ - 2) v || has_quorum (hall_of s) (records_of s t) (φ - 1) 2) e) [
        | inl first ↦ or_left (eqb φ 1) (has_quorum (hall_of s) u (φ - 2) v || has_quorum (hall_of s) u (φ - 1) 2) first
        | inr later ↦
            or_right (eqb φ 1) (has_quorum (hall_of s) u (φ - 2) v || has_quorum (hall_of s) u (φ - 1) 2)
            (elim (or_cases (has_quorum (hall_of s) (records_of s t) (φ - 2) v) (has_quorum (hall_of s) (records_of s t) (φ - 1) 2) later) [
              | inl locked ↦
                  or_left (has_quorum (hall_of s) u (φ - 2) v) (has_quorum (hall_of s) u (φ - 1) 2)
                  (subst (λ (x : ℕ). has_quorum (hall_of s) u x v ≡ true) second
                  (carries u within (subst (λ (x : ℕ). has_quorum (hall_of s) (records_of s t) x v ≡ true) (sym second) locked)))
              | inr none ↦ absurd (both_ways (has_quorum (hall_of s) (records_of s t) (φ - 1) 2) missed none)
            ])
      ]

  pub serves_second : (v k ω : ℕ) → Converge ≡ kind_of φ → ψ ≡ φ - 2 → ω ≡ φ - 1 → k ≡ quorum_of s.cabins s.faults → false ≡ has_quorum (hall_of s) (records_of s t) ω 2 → Adds s t ψ ψ k m m' → EnoughFor s t m' ψ v k → Serves s t φ most_rule (λ u. meets_value s u φ v) m m'
  serves_second v k ω kind second before is missed adds enough = record {
    adds = recent k most_rule (omega arith) (omega arith) (omega (arith, quorum_small s)) adds;
    carries = by_kind Converge v kind (carries_second v second (rw (← before) (sym missed)) (carries_quorum v k is enough));
  }

  -- an undecided record after the first cycle
  carries_undecided : (v : ℕ) → ψ ≡ last_lock φ → 3 < φ → Carries s t m' (λ u. both_held s.cabins s.faults u ψ) → Carries s t m' (λ u. meets_status s u φ v Undecided)
  unfolding two_way
  carries_undecided v lock late carries = rw (lt-leb φ 3 late, ← lock) carries

  pub serves_undecided : (v : ℕ) (σ : Status) → σ ≡ Undecided → ψ ≡ last_lock φ → 3 < φ → Adds s t ψ ψ most_rule m m' → Carries s t m' (λ u. both_held s.cabins s.faults u ψ) → Serves s t φ most_rule (λ u. meets_status s u φ v σ) m m'
  serves_undecided v σ is lock late adds carries = record {
    adds = recent most_rule most_rule (omega arith) (omega arith) (omega arith) adds;
    carries = subst (λ (x : Status). Carries s t m' (λ u. meets_status s u φ v x)) (sym is) (carries_undecided v lock late carries);
  }

-- a weak quorum for each course
pub both_carries : (s : Settings) (t : List Place) (φ k : ℕ) (m m' : List Place) → k ≡ weak_quorum_of s.cabins s.faults → EnoughFor s t m φ 0 k → Adds s t φ φ k m m' → EnoughFor s t m' φ 1 k → Carries s t m' (λ u. both_held s.cabins s.faults u φ)
both_carries s t φ k m m' is enough adds enough' u within e =
    let zero = subst (λ (x : ℕ). Carries s t m (λ u. leb x (tally s.cabins u φ 0))) is (carries_for s t m φ 0 k enough) in
    let one = subst (λ (x : ℕ). Carries s t m' (λ u. leb x (tally s.cabins u φ 1))) is (carries_for s t m' φ 1 k enough') in
    let kept = carries_more s t m m' (λ u. has_weak_quorum s.cabins s.faults u φ 0) (adds_within s t φ φ k m m' adds) zero in
    let parts = and_parts (has_weak_quorum s.cabins s.faults (records_of s t) φ 0) (has_weak_quorum s.cabins s.faults (records_of s t) φ 1) e in
    and_from (has_weak_quorum s.cabins s.faults u φ 0) (has_weak_quorum s.cabins s.faults u φ 1) (kept u within parts.0) (one u within parts.1)
