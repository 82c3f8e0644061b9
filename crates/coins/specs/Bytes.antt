-- The bits of a byte coin. Assumes nothing.
use Rattle.std.specs.Prelude.{ℕ, zero, suc, ◌-◌, ◌/◌, ◌%◌, cond, List, [], ◌∷◌, length, Ok, Result, nat_le, nat_lt, slice_index}
use Rattle.std.specs.List.{flat_map}
use Rattle.settings.specs.Refusals.{needs}
use Rattle.coins.specs.Bits.{bit_of}
use Rattle.coins.specs.declared.bytes.ByteCoin.{ByteCoin}

-- the eight bits of a byte, the high bit first
abbrev pub byte_bits : ℕ → List ℕ
byte_bits b = bit_of b 7 ∷ bit_of b 6 ∷ bit_of b 5 ∷ bit_of b 4 ∷ bit_of b 3 ∷ bit_of b 2 ∷ bit_of b 1 ∷ bit_of b 0 ∷ []

-- all bits of some bytes
abbrev pub all_bits : List ℕ → List ℕ
all_bits bs = flat_map byte_bits bs

-- the byte with j bytes behind it, or 0 where there is none
abbrev pub byte_behind : List ℕ → ℕ → ℕ
byte_behind bs j = cond (nat_lt j (length bs)) (slice_index bs (length bs - 1 - j)) 0

-- the bit with n bits behind it
abbrev pub bit_behind : List ℕ → ℕ → ℕ
bit_behind bs n = bit_of (byte_behind bs (n / 8)) (n % 8)

-- the last n bits of some bytes
unfoldable pub last_bits : List ℕ → ℕ → List ℕ
last_bits bs zero = []
last_bits bs (suc n) = bit_behind bs n ∷ last_bits bs n

abbrev pub byte_coin_bits : ByteCoin → List ℕ
byte_coin_bits c = last_bits c.bytes.now c.left

-- refusal 18 for more than 4,096 bytes; else all their bits
abbrev pub byte_coin_answer : List ℕ → Result (List ℕ) ℕ
byte_coin_answer bs = needs (nat_le (length bs) 4096) 18 (Ok (all_bits bs))
