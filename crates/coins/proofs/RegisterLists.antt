-- The list of a register coin: its length, its first bit and what is behind it.
use Rattle.std.proofs.Common.{◌≡◌, ℕ, zero, suc, ◌-◌, ◌<◌, true, ◌∷◌, length, refl, ap, arith}
use Rattle.std.proofs.lemmas.Grind.{common_steps}
use Rattle.coins.specs.Bits.{are_bits, bit_of}
use Rattle.coins.specs.Register.{next_register, register_bits}

pub register_bits_length : (r n : ℕ) → length (register_bits r n) ≡ n
unfolding register_bits
register_bits_length r zero = refl
register_bits_length r (suc n) = ap suc (register_bits_length (next_register r) n)

-- each of them is a bit
pub register_bits_each : (r n : ℕ) → are_bits (register_bits r n) ≡ true
unfolding register_bits
register_bits_each r zero = refl
register_bits_each r (suc n) = grind (arith, common_steps, register_bits_each (next_register r) n)

-- the lowest bit, and the bits of the register after it
pub register_bits_step : (r n : ℕ) → 0 < n → register_bits r n ≡ bit_of r 0 ∷ register_bits (next_register r) (n - 1)
unfolding register_bits
register_bits_step r zero more = absurd (omega arith)
register_bits_step r (suc n) more = let e : suc n - 1 ≡ n = omega arith in rw e refl
