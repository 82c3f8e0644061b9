-- What an accepted answer says of the tests before it.
use Rattle.std.proofs.Common.{◌≡◌, ℕ, Bool, true, false, Ok, Err, Result, refl, arith}
use Rattle.settings.specs.Refusals.{needs}

-- a refusal is no acceptance
pub err_ok : {A : Type 0} (k : ℕ) (x : A) → Err k ≡ Ok x → ⊥
err_ok k x e = grind arith

-- where an answer is accepted, the first test passed and the rest is accepted
pub needs_ok : {A : Type 0} (test : Bool) (k : ℕ) (rest : Result A ℕ) (x : A) → needs test k rest ≡ Ok x → (test ≡ true) × (rest ≡ Ok x)
needs_ok true k rest x e = (refl, e)
needs_ok false k rest x e = absurd (err_ok k x e)
