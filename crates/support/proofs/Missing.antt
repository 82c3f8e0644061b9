-- What the first value of a cabin says of its records, and what is missing of it.
use Rattle.std.proofs.Common.{◌≡◌, ℕ, Bool, true, false, List, [], ◌∷◌, Some, None, Option, sym, refl, subst, inl, inr}
use Rattle.std.specs.List.{find, list_any}
use Rattle.std.proofs.lemmas.Bool.{both_ways, cases_Bool, or_cases, or_left, or_right}
use Rattle.agreement.specs.Rules.{Table}
use Rattle.support.specs.Passes.{first_value, missing_from, missing_value}

-- more numbers pass, so one still does
pub any_within : (f g : ℕ → Bool) (vs : List ℕ) → ((v : ℕ) → f v ≡ true → g v ≡ true) → list_any f vs ≡ true → list_any g vs ≡ true
any_within f g [] grown e = e
any_within f g (x ∷ xs) grown e =
    elim (or_cases (f x) (list_any f xs) e) [
      | inl here ↦ or_left (g x) (list_any g xs) (grown x here)
      | inr later ↦ or_right (g x) (list_any g xs) (any_within f g xs grown later)
    ]

-- one of the values v passes f, and any other test that v passes holds of one too; or none passes f
abbrev Found : (ℕ → Bool) → List ℕ → Option ℕ → Type 0
Found f vs None = list_any f vs ≡ false
Found f vs (Some v) = (f v ≡ true) × ((g : ℕ → Bool) → g v ≡ true → list_any g vs ≡ true)

found_later : (f : ℕ → Bool) (x : ℕ) (xs : List ℕ) (o : Option ℕ) → f x ≡ false → Found f xs o → Found f (x ∷ xs) o
found_later f x xs None not has = rw not has
found_later f x xs (Some v) not has = (has.0, λ g e. or_right (g x) (list_any g xs) (has.1 g e))

found : (f : ℕ → Bool) (vs : List ℕ) → Found f vs (find f vs)
found f [] = refl
found f (x ∷ xs) =
    elim (cases_Bool (f x)) [
      | inl here ↦ rw here (here, λ g e. or_left (g x) (list_any g xs) e)
      | inr not ↦ rw not (found_later f x xs (find f xs) not (found f xs))
    ]

-- a value that f has where g has none, or g has one wherever f has
abbrev pub Missing : (ℕ → Bool) → (ℕ → Bool) → List ℕ → Option ℕ → Type 0
Missing f g vs None = list_any f vs ≡ true → list_any g vs ≡ true
Missing f g vs (Some v) = (f v ≡ true) × (list_any g vs ≡ false) × ((h : ℕ → Bool) → h v ≡ true → list_any h vs ≡ true)

missing : (f g : ℕ → Bool) (vs : List ℕ) (o p : Option ℕ) → Found f vs o → Found g vs p → Missing f g vs (missing_from p o)
missing f g vs o (Some w) has held = λ e. held.1 g held.0
missing f g vs None None has held = λ e. absurd (both_ways (list_any f vs) has e)
missing f g vs (Some v) None has held = (has.0, held, has.1)

pub missing_is : (t m : Table) (φ i : ℕ) (vs : List ℕ) (r : Option ℕ) → r ≡ missing_value t m φ i vs → Missing (t φ i) (m φ i) vs r
missing_is t m φ i vs r is = subst (Missing (t φ i) (m φ i) vs) (sym is) (missing (t φ i) (m φ i) vs (first_value t φ i vs) (first_value m φ i vs) (found (t φ i) vs) (found (m φ i) vs))

pub missing_had : (t m : Table) (φ i : ℕ) (vs : List ℕ) (v : ℕ) → Some v ≡ missing_value t m φ i vs → t φ i v ≡ true
missing_had t m φ i vs v is = (missing_is t m φ i vs (Some v) is).0
