-- What options, accepted answers and a change for one cabin say, case by case.
use Rattle.std.proofs.Common.{◌≡◌, ℕ, Bool, true, ◌&&◌, ◌||◌, eqb, ◌⊎◌, Some, None, Ok, Result, sym, subst, inl, inr, arith}
use Rattle.std.proofs.lemmas.Bool.{and_parts, cases_eq, eqb-true, or_cases}

-- the variants of an option and of an answer differ, and hold what they were made of
pub none_some : {A : Type 0} (x : A) → None ≡ Some x → ⊥
none_some x e = grind arith

pub same_some : {A : Type 0} (x y : A) → Some x ≡ Some y → x ≡ y
same_some x y e = cc

pub same_ok : {A : Type 0} (x y : A) → ◌≡◌ {A = Result A ℕ} (Ok x) (Ok y) → x ≡ y
same_ok x y e = cc

-- what holds of cabin i, and of every other, holds of each
pub each_cabin : (P : ℕ → Type 0) (i : ℕ) → P i → ((j : ℕ) → (j ≡ i → ⊥) → P j) → (j : ℕ) → P j
each_cabin P i here others j = elim (cases_eq j i) [ inl e ↦ subst P (sym e) here | inr other ↦ others j other ]

-- what is announced now is the phase and value of the announcement, or was announced before
pub said_cases : (φ v φ₀ v₀ : ℕ) (before : Bool) → ((eqb φ φ₀ && eqb v v₀) || before) ≡ true → ((φ ≡ φ₀) × (v ≡ v₀)) ⊎ (before ≡ true)
said_cases φ v φ₀ v₀ before e =
    elim (or_cases (eqb φ φ₀ && eqb v v₀) before e) [
      | inl now ↦ let both = and_parts (eqb φ φ₀) (eqb v v₀) now in inl (eqb-true φ φ₀ both.0, eqb-true v v₀ both.1)
      | inr old ↦ inr old
    ]
