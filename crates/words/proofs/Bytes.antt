-- When two lists of bytes are the same.
use Rattle.std.proofs.Common.{◌≡◌, ℕ, ◌≤◌, true, false, List, length, get_or, take, sym, refl, ap, ◌∙◌, inl, inr, arith}
use Rattle.std.proofs.lemmas.List.{take_all}
use Rattle.std.proofs.lemmas.Bool.{cases_Bool}
use Rattle.std.proofs.lemmas.Slice.Eq.{bytes_eq-Decides}
use Rattle.words.specs.Checks.{same_bytes}

pub same_itself : (xs : List ℕ) → same_bytes xs xs ≡ true
same_itself xs = (bytes_eq-Decides xs xs).1 refl

-- lists that differ are not the same
same_from_ne : (xs ys : List ℕ) → (xs ≡ ys → ⊥) → same_bytes xs ys ≡ false
same_from_ne xs ys ne =
    elim (cases_Bool (same_bytes xs ys)) [
      | inl e ↦ absurd (ne ((bytes_eq-Decides xs ys).0 e))
      | inr e ↦ e
    ]

-- so lists of two lengths are not
pub same_from_length : (xs ys : List ℕ) → (length xs ≡ length ys → ⊥) → false ≡ same_bytes xs ys
same_from_length xs ys ne = sym (same_from_ne xs ys (λ e. ne (ap length e)))

-- nor are lists with another byte at a place
pub same_from_place : (xs ys : List ℕ) (i : ℕ) → (get_or xs i 0 ≡ get_or ys i 0 → ⊥) → false ≡ same_bytes xs ys
same_from_place xs ys i ne = sym (same_from_ne xs ys (λ e. ne (ap (λ (zs : List ℕ). get_or zs i 0) e)))

-- lists of one length whose first bytes are the same, up to their end
pub same_from_take : (xs ys : List ℕ) (i : ℕ) → length xs ≡ length ys → length xs ≤ i → take i xs ≡ take i ys → true ≡ same_bytes xs ys
same_from_take xs ys i len end e =
    let whole : xs ≡ ys = sym (take_all i xs end) ∙ (e ∙ take_all i ys (omega arith)) in
    sym (rw whole (same_itself ys))
