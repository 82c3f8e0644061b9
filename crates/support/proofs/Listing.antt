-- A list of places: the members of a set one by one.
use Rattle.std.proofs.Common.{◌≡◌, ℕ, suc, ◌+◌, ◌<◌, ◌≤◌, Bool, true, false, eqb, List, [], ◌∷◌, ◌++◌, length, get_or, sym, refl, ap, subst, inl, inr, add-one, arith}
use Rattle.std.proofs.lemmas.List.{get_or_append_left, get_or_push, length_push}
use Rattle.std.proofs.lemmas.Bool.{both_ways, cases_eq, eq-eqb, or_cases, or_left, or_right}
use Rattle.agreement.specs.Counting.{count}
use Rattle.agreement.proofs.Counting.{count_in, count_out, count_zero}
use Rattle.support.specs.Support.{is_among, most_support}
use Rattle.support.specs.Passes.{Listed}
use Rattle.support.proofs.Counting.{count_upto}

among_left : (xs ys : List ℕ) (k : ℕ) → is_among xs k ≡ true → is_among (xs ++ ys) k ≡ true
among_left [] ys k e = absurd (both_ways false refl e)
among_left (x ∷ xs) ys k e =
    elim (or_cases (eqb k x) (is_among xs k) e) [
      | inl here ↦ or_left (eqb k x) (is_among (xs ++ ys) k) here
      | inr later ↦ or_right (eqb k x) (is_among (xs ++ ys) k) (among_left xs ys k later)
    ]

among_last : (xs : List ℕ) (k : ℕ) → is_among (xs ++ k ∷ []) k ≡ true
among_last [] k = or_left (eqb k k) false (eq-eqb k k refl)
among_last (x ∷ xs) k = or_right (eqb k x) (is_among (xs ++ k ∷ []) k) (among_last xs k)

pub listed_none : (A : ℕ → Bool) (ks : List ℕ) → ks ≡ [] → Listed A 0 ks
listed_none A ks empty =
    let none : length ks ≡ 0 = ap length empty in
    record {
      size = omega (arith, count_zero A);
      below = λ a within. absurd (omega arith);
      member = λ a within. absurd (omega arith);
      rising = λ a b less within. absurd (omega arith);
      all = λ k within e. absurd (omega arith);
    }

-- entries of a list with n at its end
last_cases : (P : ℕ → Type 0) (ks : List ℕ) (n a : ℕ) → a < length (ks ++ n ∷ []) → (a < length ks → P (get_or ks a 0)) → (a ≡ length ks → P n) → P (get_or (ks ++ n ∷ []) a 0)
last_cases P ks n a within before here =
    elim (cases_eq a (length ks)) [
      | inl e ↦ subst P (sym (get_or_push ks n 0 a (sym e))) (here e)
      | inr e ↦
          let less : a < length ks = omega (arith, length_push ks n) in
          subst P (sym (get_or_append_left ks (n ∷ []) 0 a less)) (before less)
    ]

-- one more number, in the set
listed_last : (A : ℕ → Bool) (n : ℕ) (ks : List ℕ) → Listed A n ks → A n ≡ true → Listed A (suc n) (ks ++ n ∷ [])
listed_last A n ks so_far here = record {
  size = omega (arith, length_push ks n, so_far.size, count_in A n here);
  below = λ a within. last_cases (λ (x : ℕ). x < suc n) ks n a within (λ less. omega (arith, so_far.below a less)) (λ e. omega arith);
  member = λ a within. last_cases (λ (x : ℕ). A x ≡ true) ks n a within (λ less. so_far.member a less) (λ e. here);
  rising = λ a b less within.
      let first : a < length ks = omega (arith, length_push ks n) in
      subst (λ (x : ℕ). x < get_or (ks ++ n ∷ []) b 0) (sym (get_or_append_left ks (n ∷ []) 0 a first))
      (last_cases (λ (y : ℕ). get_or ks a 0 < y) ks n b within (λ inside. so_far.rising a b less inside) (λ e. so_far.below a first));
  all = λ k within e.
      elim (cases_eq k n) [
        | inl same ↦ subst (λ (x : ℕ). is_among (ks ++ n ∷ []) x ≡ true) (sym same) (among_last ks n)
        | inr other ↦ among_left ks (n ∷ []) k (so_far.all k (omega arith) e)
      ];
}

pub listed_in : (A : ℕ → Bool) (n : ℕ) (ks ks' : List ℕ) → Listed A n ks → true ≡ A n → ks' ≡ ks ++ n ∷ [] → Listed A (n + 1) ks'
listed_in A n ks ks' so_far here push = rw (add-one n, push) (listed_last A n ks so_far (sym here))

-- one more number, not in the set
listed_past : (A : ℕ → Bool) (n : ℕ) (ks : List ℕ) → Listed A n ks → A n ≡ false → Listed A (n + 1) ks
listed_past A n ks so_far out = record {
  size = rw (add-one n) (omega (arith, so_far.size, count_out A n out));
  below = λ a within. omega (arith, so_far.below a within);
  member = so_far.member;
  rising = so_far.rising;
  all = λ k within e.
      elim (cases_eq k n) [
        | inl same ↦ absurd (both_ways (A n) out (subst (λ (x : ℕ). A x ≡ true) same e))
        | inr other ↦ so_far.all k (omega arith) e
      ];
}

pub listed_out : (A : ℕ → Bool) (n : ℕ) (ks ks' : List ℕ) → Listed A n ks → false ≡ A n → ks' ≡ ks → Listed A (n + 1) ks'
listed_out A n ks ks' so_far out same = rw same (listed_past A n ks so_far (sym out))

-- there is room for one more
pub listed_room : (A : ℕ → Bool) (n end : ℕ) (ks : List ℕ) → Listed A n ks → true ≡ A n → n < end → count A end ≤ most_support → length ks < most_support
listed_room A n end ks so_far here below few = omega (arith, so_far.size, count_in A n (sym here), count_upto A (suc n) end (omega arith))
