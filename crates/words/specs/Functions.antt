-- The operations on 32-bit words and the six functions of SHA-256: FIPS 180-4, sections 2.2.2, 3.2 and 4.1.2.
-- A word is a number below 2 ^ 32.
-- Assumes nothing.
use Rattle.std.specs.Prelude.{ℕ, ◌+◌, ◌-◌, ◌*◌, ◌/◌, ◌%◌, ◌^◌, bit_and, bit_or, bit_xor}

infixl 20 ◌⊕◌
infixl 30 ◌AND◌
infixl 40 ◌⊞◌
-- the bitwise and
abbrev pub ◌AND◌ : ℕ → ℕ → ℕ
x AND y = bit_and x y

-- the bitwise exclusive or
abbrev pub ◌⊕◌ : ℕ → ℕ → ℕ
x ⊕ y = bit_xor x y

-- the bitwise complement
abbrev pub NOT : ℕ → ℕ
NOT x = 2 ^ 32 - 1 - x

-- the sum modulo 2 ^ 32
abbrev pub ◌⊞◌ : ℕ → ℕ → ℕ
x ⊞ y = (x + y) % 2 ^ 32

-- the shift right by n bits
abbrev pub SHR : ℕ → ℕ → ℕ
SHR n x = x / 2 ^ n

-- the rotation right by n bits: the shift right by n, or the shift left by 32 - n
abbrev pub ROTR : ℕ → ℕ → ℕ
ROTR n x = bit_or (x / 2 ^ n) ((x * 2 ^ (32 - n)) % 2 ^ 32)

-- each bit of x chooses the bit of y or of z
abbrev pub Ch : ℕ → ℕ → ℕ → ℕ
Ch x y z = (x AND y) ⊕ (NOT x AND z)

-- each bit is the majority of the three
abbrev pub Maj : ℕ → ℕ → ℕ → ℕ
Maj x y z = (x AND y) ⊕ (x AND z) ⊕ (y AND z)

-- the rotations by a, b and c, combined by exclusive or
abbrev pub Σ : ℕ → ℕ → ℕ → ℕ → ℕ
Σ a b c x = ROTR a x ⊕ ROTR b x ⊕ ROTR c x

-- the rotations by a and b, and the shift by c
abbrev pub σ : ℕ → ℕ → ℕ → ℕ → ℕ
σ a b c x = ROTR a x ⊕ ROTR b x ⊕ SHR c x

abbrev pub Σ0 : ℕ → ℕ
Σ0 = Σ 2 13 22

abbrev pub Σ1 : ℕ → ℕ
Σ1 = Σ 6 11 25

abbrev pub σ0 : ℕ → ℕ
σ0 = σ 7 18 3

abbrev pub σ1 : ℕ → ℕ
σ1 = σ 17 19 10
