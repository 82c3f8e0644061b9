-- The bits of a register coin. Assumes nothing.
use Rattle.std.specs.Prelude.{ℕ, zero, suc, ◌+◌, ◌*◌, ◌/◌, List, [], ◌∷◌, Ok, Result, bit_xor, nat_le}
use Rattle.settings.specs.Refusals.{needs}
use Rattle.coins.specs.Bits.{bit_of}
use Rattle.coins.specs.declared.register.RegisterCoin.{RegisterCoin}

-- the exclusive or of bits 0, 2, 3 and 5
abbrev pub feedback_of : ℕ → ℕ
feedback_of r = bit_xor (bit_xor (bit_xor (bit_of r 0) (bit_of r 2)) (bit_of r 3)) (bit_of r 5)

-- shifted right by one; the feedback enters as bit 15
abbrev pub next_register : ℕ → ℕ
next_register r = r / 2 + feedback_of r * 32768

-- the next n bits of a register: its lowest bit, then those of the register after it
unfoldable pub register_bits : ℕ → ℕ → List ℕ
register_bits r zero = []
register_bits r (suc n) = bit_of r 0 ∷ register_bits (next_register r) n

abbrev pub register_coin_bits : RegisterCoin → List ℕ
register_coin_bits c = register_bits c.register c.left

-- refusal 18 for register 0; else 65,535 bits
abbrev pub register_coin_answer : ℕ → Result (List ℕ) ℕ
register_coin_answer r = needs (nat_le 1 r) 18 (Ok (register_bits r 65535))
