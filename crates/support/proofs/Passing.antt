-- The loop of the passes, turn by turn.
use Rattle.std.proofs.Common.{◌≡◌, ℕ, ◌+◌, ◌-◌, ◌<◌, ◌≤◌, Bool, true, List, [], ◌∷◌, length, Some, None, sym, ap, ◌∙◌, subst, inl, inr, arith, rules, tests, length-set}
use Rattle.std.specs.List.{list_any}
use Rattle.std.proofs.lemmas.Bool.{cases_eq, cases_lt}
use Rattle.settings.specs.declared.settings.Settings.{Settings}
use Rattle.agreement.specs.Counting.{count, some}
use Rattle.agreement.specs.Rules.{Table, tally, turnout}
use Rattle.agreement.specs.TwoWay.{two_way}
use Rattle.agreement.proofs.Counting.{count_within}
use Rattle.table.specs.Places.{records_of}
use Rattle.table.specs.Rules.{count_for, count_in}
use Rattle.table.specs.declared.place.Place.{Place}
use Rattle.support.specs.Passes.{Adds, EnoughFor, EnoughIn, EnoughOf, copied, missing_value, most_places, said}
use Rattle.support.proofs.Counting.{count_gain}
use Rattle.support.proofs.Missing.{any_within, missing_is}
use Rattle.support.proofs.Copying.{adds_more, adds_none, adds_wider, adds_within, copied_adds, copied_has}

-- the cabins with a record for phase φ with one of the values vs
abbrev pub speaking : Settings → List Place → ℕ → List ℕ → ℕ → Bool
speaking s m φ vs = said (records_of s m) φ vs

speaking_within : (s : Settings) (t : List Place) (φ : ℕ) (vs : List ℕ) (b : ℕ) (m m' : List Place) → Adds s t φ φ b m m' → (j : ℕ) → speaking s m φ vs j ≡ true → speaking s m' φ vs j ≡ true
speaking_within s t φ vs b m m' adds j e = any_within (records_of s m φ j) (records_of s m' φ j) vs (adds_within s t φ φ b m m' adds φ j) e

-- k cabins have a chosen record, k₀ of them from the start; of those below i all that can, or `most`
pub record Filled (s : Settings) (t : List Place) (φ : ℕ) (vs : List ℕ) (most : ℕ) (m₀ m : List Place) (i k₀ k : ℕ) : Type 0 where
  pub size : length m ≡ most_places
  pub adds : Adds s t φ φ (k - k₀) m₀ m
  pub start : k₀ ≤ k
  pub bound : k - k₀ ≤ most
  pub held : k ≤ count (speaking s m φ vs) s.cabins
  pub all : k < most → (j : ℕ) → j < i → speaking s t φ vs j ≡ true → speaking s m φ vs j ≡ true

pub filled_none : (s : Settings) (t : List Place) (φ : ℕ) (vs : List ℕ) (most : ℕ) (m : List Place) (k : ℕ) → length m ≡ most_places → k ≡ count (speaking s m φ vs) s.cabins → Filled s t φ vs most m m 0 k k
filled_none s t φ vs most m k size is = record {
  size = size;
  adds = adds_wider s t φ φ 0 φ φ (k - k) m m (omega arith) (omega arith) (omega arith) (adds_none s t φ φ m);
  start = omega arith;
  bound = omega arith;
  held = omega arith;
  all = λ less j below e. absurd (omega arith);
}

-- a cabin with a record that is chosen
pub filled_in : (s : Settings) (t : List Place) (φ : ℕ) (vs : List ℕ) (most : ℕ) (m₀ m m' : List Place) (i k₀ k k' v : ℕ) → Filled s t φ vs most m₀ m i k₀ k → k < most → i < s.cabins → Some v ≡ missing_value (records_of s t) (records_of s m) φ i vs → m' ≡ copied s t m φ i v → k' ≡ k + 1 → Filled s t φ vs most m₀ m' (i + 1) k₀ k'
filled_in s t φ vs most m₀ m m' i k₀ k k' v so_far less cabin is copy more =
    let new = missing_is (records_of s t) (records_of s m) φ i vs (Some v) is in
    let fresh : Adds s t φ φ 1 m m' = subst (λ (x : List Place). Adds s t φ φ 1 m x) (sym copy) (copied_adds s t m φ i v so_far.size new.0) in
    let has : records_of s m' φ i v ≡ true = subst (λ (x : List Place). records_of s x φ i v ≡ true) (sym copy) (copied_has s t m φ i v so_far.size new.0) in
    let here : speaking s m' φ vs i ≡ true = new.2 (records_of s m' φ i) has in
    record {
      size = ap length copy ∙ length-set _ _ _ ∙ so_far.size;
      adds =
          adds_wider s t φ φ (k - k₀ + 1) φ φ (k' - k₀) m₀ m' (omega arith) (omega arith) (omega (arith, so_far.start))
          (adds_more s t φ φ (k - k₀) 1 m₀ m m' so_far.adds fresh);
      start = omega (arith, so_far.start);
      bound = omega arith;
      held = omega (arith, so_far.held, count_gain (speaking s m φ vs) (speaking s m' φ vs) i s.cabins cabin new.1 here (speaking_within s t φ vs 1 m m' fresh));
      all = λ below j within e.
          elim (cases_eq j i) [
            | inl same ↦ subst (λ (x : ℕ). speaking s m' φ vs x ≡ true) (sym same) here
            | inr other ↦ speaking_within s t φ vs 1 m m' fresh j (so_far.all less j (omega arith) e)
          ];
    }

-- a cabin of which nothing is missing, or one above the most
pub filled_out : (s : Settings) (t : List Place) (φ : ℕ) (vs : List ℕ) (most : ℕ) (m₀ m m' : List Place) (i k₀ k k' : ℕ) → Filled s t φ vs most m₀ m i k₀ k → (k < most → None ≡ missing_value (records_of s t) (records_of s m) φ i vs) → m' ≡ m → k' ≡ k → Filled s t φ vs most m₀ m' (i + 1) k₀ k'
filled_out s t φ vs most m₀ m m' i k₀ k k' so_far nothing same as_many = rw (same, as_many) (record {
  size = so_far.size;
  adds = so_far.adds;
  start = so_far.start;
  bound = so_far.bound;
  held = so_far.held;
  all = λ less j below e.
      elim (cases_eq j i) [
        | inl here ↦
            subst (λ (x : ℕ). speaking s m φ vs x ≡ true) (sym here)
            (missing_is (records_of s t) (records_of s m) φ i vs None (nothing less) (subst (λ (x : ℕ). speaking s t φ vs x ≡ true) here e))
        | inr other ↦ so_far.all less j (omega arith) e
      ];
})

-- all cabins
pub filled_enough : (s : Settings) (t : List Place) (φ : ℕ) (vs : List ℕ) (most : ℕ) (m₀ m : List Place) (i k₀ k : ℕ) → s.cabins ≤ i → Filled s t φ vs most m₀ m i k₀ k → EnoughOf s t m φ vs most
filled_enough s t φ vs most m₀ m i k₀ k end so_far u within enough =
    let grown = count_within (speaking s m φ vs) (said u φ vs) s.cabins (λ j below. any_within (records_of s m φ j) (u φ j) vs (within φ j)) in
    elim (cases_lt k most) [
      | inl less ↦ omega (arith, grown, count_within (speaking s t φ vs) (speaking s m φ vs) s.cabins (λ j below. so_far.all less j (omega arith)))
      | inr full ↦ omega (arith, so_far.held, grown)
    ]

-- one value, or all three, as the counts of a table have them
count_same : (A B : ℕ → Bool) (n : ℕ) → ((i : ℕ) → A i ≡ B i) → count A n ≡ count B n
count_same A B n same = omega (arith, count_within A B n (λ i below e. sym (same i) ∙ e), count_within B A n (λ i below e. same i ∙ e))

one_of : (f : ℕ → Bool) (v : ℕ) → f v ≡ list_any f (v ∷ [])
one_of f v = search (rules, tests)

three_of : (f : ℕ → Bool) → some f 3 ≡ list_any f (0 ∷ 1 ∷ 2 ∷ [])
unfolding some
three_of f = search (rules, tests)

pub count_of_one : (s : Settings) (t : Table) (φ v : ℕ) → count_for s t φ v ≡ count (said t φ (v ∷ [])) s.cabins
unfolding tally
count_of_one s t φ v = count_same (λ j. t φ j v) (said t φ (v ∷ [])) s.cabins (λ j. one_of (t φ j) v)

pub count_of_all : (s : Settings) (t : Table) (φ : ℕ) → count_in s t φ ≡ count (said t φ (0 ∷ 1 ∷ 2 ∷ [])) s.cabins
unfolding turnout two_way
count_of_all s t φ = count_same (λ j. some (t φ j) 3) (said t φ (0 ∷ 1 ∷ 2 ∷ [])) s.cabins (λ j. three_of (t φ j))

pub enough_of_one : (s : Settings) (t m : List Place) (φ v k : ℕ) → EnoughOf s t m φ (v ∷ []) k → EnoughFor s t m φ v k
enough_of_one s t m φ v k enough u within more =
    omega (arith, count_of_one s u φ v, enough u within (omega (arith, count_of_one s (records_of s t) φ v)))

pub enough_of_all : (s : Settings) (t m : List Place) (φ k : ℕ) → EnoughOf s t m φ (0 ∷ 1 ∷ 2 ∷ []) k → EnoughIn s t m φ k
enough_of_all s t m φ k enough u within more =
    omega (arith, count_of_all s u φ, enough u within (omega (arith, count_of_all s (records_of s t) φ)))
