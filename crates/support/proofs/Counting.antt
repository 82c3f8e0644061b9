-- Laws of counting that the passes need.
use Rattle.std.proofs.Common.{◌≡◌, ℕ, zero, suc, ◌+◌, ◌<◌, ◌≤◌, Bool, true, false, ap, inl, inr, arith}
use Rattle.std.proofs.lemmas.Bool.{cases_Bool, cases_eq}
use Rattle.agreement.specs.Counting.{count}
use Rattle.agreement.proofs.Counting.{count_in, count_out, count_within, count_zero}

pub count_grows : (A : ℕ → Bool) (n : ℕ) → count A n ≤ count A (suc n)
count_grows A n = elim (cases_Bool (A n)) [ inl a ↦ omega (arith, count_in A n a) | inr a ↦ omega (arith, count_out A n a) ]

pub count_one : (A : ℕ → Bool) (n : ℕ) → count A (suc n) ≤ count A n + 1
count_one A n = elim (cases_Bool (A n)) [ inl a ↦ omega (arith, count_in A n a) | inr a ↦ omega (arith, count_out A n a) ]

-- more numbers, no fewer members
pub count_upto : (A : ℕ → Bool) (m n : ℕ) → m ≤ n → count A m ≤ count A n
count_upto A m zero up = let e : m ≡ zero = omega arith in omega (arith, ap (count A) e)
count_upto A m (suc n) up =
    elim (cases_eq m (suc n)) [
      | inl e ↦ omega (arith, ap (count A) e)
      | inr e ↦ omega (arith, count_upto A m n (omega arith), count_grows A n)
    ]

-- a set that has one number more at most has one member more at most
pub count_but_one : (A B : ℕ → Bool) (p n : ℕ) → ((i : ℕ) → (i ≡ p → ⊥) → B i ≡ true → A i ≡ true) → count B n ≤ count A n + 1
count_but_one A B p zero rest = omega (arith, count_zero B)
count_but_one A B p (suc n) rest =
    elim (cases_eq n p) [
      | inl e ↦ omega (arith, count_within B A n (λ i below. rest i (λ same. omega arith)), count_one B n, count_grows A n)
      | inr e ↦ elim (cases_Bool (B n)) [
        | inl b ↦ omega (arith, count_but_one A B p n rest, count_in B n b, count_in A n (rest n e b))
        | inr b ↦ omega (arith, count_but_one A B p n rest, count_out B n b, count_grows A n)
      ]
    ]

-- a set that has grown by a number has one member more at least
pub count_gain : (A B : ℕ → Bool) (p n : ℕ) → p < n → A p ≡ false → B p ≡ true → ((i : ℕ) → A i ≡ true → B i ≡ true) → count A n + 1 ≤ count B n
count_gain A B p zero below out here grown = absurd (omega arith)
count_gain A B p (suc n) below out here grown =
    elim (cases_eq p n) [
      | inl e ↦
          let a : A n ≡ false = cc in
          let b : B n ≡ true = cc in
          omega (arith, count_out A n a, count_in B n b, count_within A B n (λ i small. grown i))
      | inr e ↦
          let rest = count_gain A B p n (omega arith) out here grown in
          elim (cases_Bool (A n)) [
            | inl a ↦ omega (arith, count_in A n a, count_in B n (grown n a))
            | inr a ↦ omega (arith, count_out A n a, count_grows B n)
          ]
    ]
