-- Laws of counting: subsets, members, unions, and what sets share.
use Rattle.std.proofs.Common.{◌≡◌, ℕ, zero, suc, ◌+◌, ◌<◌, ◌≤◌, Bool, true, false, ◌⊎◌, refl, inl, inr, arith}
use Rattle.std.proofs.lemmas.Bool.{cases_Bool, cases_eq, false≢true, or_cases, or_left, or_right}
use Rattle.agreement.specs.Counting.{count, some}

-- one more number, in the set or not
pub count_in : (A : ℕ → Bool) (n : ℕ) → A n ≡ true → count A (suc n) ≡ suc (count A n)
unfolding count
count_in A n e = rw e (omega arith)

pub count_out : (A : ℕ → Bool) (n : ℕ) → A n ≡ false → count A (suc n) ≡ count A n
unfolding count
count_out A n e = rw e (omega arith)

pub count_zero : (A : ℕ → Bool) → count A 0 ≡ 0
unfolding count
count_zero A = refl

count_grows : (A : ℕ → Bool) (n : ℕ) → count A n ≤ count A (suc n)
unfolding count
count_grows A n = omega arith

-- a set within another has no more members
pub count_within : (A B : ℕ → Bool) (n : ℕ) → ((i : ℕ) → i < n → A i ≡ true → B i ≡ true) → count A n ≤ count B n
count_within A B zero within = omega (arith, count_zero A)
count_within A B (suc n) within =
    let rest : count A n ≤ count B n = count_within A B n (λ i below. within i (omega arith)) in
    let here : A n ≡ true → B n ≡ true = within n (omega arith) in
    grind (arith, count_in A n, count_out A n, count_in B n, count_out B n)

-- the empty set has none
pub count_none : (n : ℕ) → count (λ _. false) n ≡ 0
count_none zero = count_zero (λ _. false)
count_none (suc n) = omega (arith, count_out (λ _. false) n refl, count_none n)

-- all numbers below n are n
pub count_all : (n : ℕ) → count (λ _. true) n ≡ n
count_all zero = count_zero (λ _. true)
count_all (suc n) = omega (arith, count_in (λ _. true) n refl, count_all n)

-- a number below n that is in A and in B, and not in D
pub record Shared (A B D : ℕ → Bool) (n : ℕ) : Type 0 where
  pub member : ℕ
  pub below : member < n
  pub first : A member ≡ true
  pub second : B member ≡ true
  pub outside : D member ≡ false

shared_more : (A B D : ℕ → Bool) (n : ℕ) → Shared A B D n → Shared A B D (suc n)
shared_more A B D n s = record { member = s.member; below = omega arith; first = s.first; second = s.second; outside = s.outside }

-- where A and B together have more members than there are numbers and members of D
pub count_shared : (A B D : ℕ → Bool) (n : ℕ) → n + count D n < count A n + count B n → Shared A B D n
count_shared A B D zero more = absurd (omega (arith, count_zero A, count_zero B, count_zero D))
count_shared A B D (suc n) more =
    let earlier : n + count D n < count A n + count B n → Shared A B D (suc n) = λ less. shared_more A B D n (count_shared A B D n less) in
    elim (cases_Bool (A n)) [
      | inl a ↦ elim (cases_Bool (B n)) [
        | inl b ↦ elim (cases_Bool (D n)) [
          | inl d ↦ earlier (omega (arith, count_in A n a, count_in B n b, count_in D n d))
          | inr d ↦ record { member = n; below = omega arith; first = a; second = b; outside = d }
        ]
        | inr b ↦ earlier (omega (arith, count_in A n a, count_out B n b, count_grows D n))
      ]
      | inr a ↦ elim (cases_Bool (B n)) [
        | inl b ↦ earlier (omega (arith, count_out A n a, count_in B n b, count_grows D n))
        | inr b ↦ earlier (omega (arith, count_out A n a, count_out B n b, count_grows D n))
      ]
    ]

-- a set that has more members than another has one that the other lacks
pub count_more : (A B : ℕ → Bool) (n : ℕ) → count B n < count A n → (i : ℕ) × (i < n) × (A i ≡ true) × (B i ≡ false)
count_more A B n more =
    let s = count_shared A (λ _. true) B n (omega (arith, count_all n)) in
    (s.member, s.below, s.first, s.outside)

-- a set that has members has one
pub count_member : (A : ℕ → Bool) (n : ℕ) → 1 ≤ count A n → (i : ℕ) × (i < n) × (A i ≡ true)
count_member A n more =
    let s = count_more A (λ _. false) n (omega (arith, count_none n)) in
    (s.0, s.1, s.2)

-- a union has at most the members of both
pub count_union : (A B C : ℕ → Bool) (n : ℕ) → ((i : ℕ) → i < n → C i ≡ true → (A i ≡ true) ⊎ (B i ≡ true)) → count C n ≤ count A n + count B n
count_union A B C zero either = omega (arith, count_zero C)
count_union A B C (suc n) either =
    let rest : count C n ≤ count A n + count B n = count_union A B C n (λ i below. either i (omega arith)) in
    let here : C n ≡ true → (A n ≡ true) ⊎ (B n ≡ true) = either n (omega arith) in
    grind (arith, count_in C n, count_out C n, count_in A n, count_in B n, count_grows A n, count_grows B n)

-- some number below n is in the set
pub some_from : (A : ℕ → Bool) (n i : ℕ) → i < n → A i ≡ true → some A n ≡ true
unfolding some
some_from A zero i below e = absurd (omega arith)
some_from A (suc n) i below e =
    elim (cases_eq i n) [
      | inl same ↦ or_left (A n) (some A n) (cc)
      | inr other ↦ or_right (A n) (some A n) (some_from A n i (omega arith) e)
    ]

pub some_found : (A : ℕ → Bool) (n : ℕ) → some A n ≡ true → (i : ℕ) × (i < n) × (A i ≡ true)
unfolding some
some_found A zero e = absurd (false≢true e)
some_found A (suc n) e =
    let earlier : some A n ≡ true → (i : ℕ) × (i < suc n) × (A i ≡ true) = λ h. (let s = some_found A n h in (s.0, omega arith, s.2)) in
    elim (or_cases (A n) (some A n) e) [
      | inl here ↦ (n, omega arith, here)
      | inr before ↦ earlier before
    ]
