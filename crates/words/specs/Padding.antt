-- The padding of a message and its parsing into blocks of words: FIPS 180-4, sections 3.1, 5.1.1 and 5.2.1.
-- A message is a list of bytes.
-- Assumes nothing.
use Rattle.std.specs.Prelude.{ℕ, zero, suc, ◌+◌, ◌-◌, ◌*◌, ◌/◌, ◌%◌, ◌^◌, List, [], ◌∷◌, ◌++◌, map, length, replicate, slice_index}
use Rattle.std.specs.List.{between, range_with_len}

-- the n lowest bytes of x, the most significant first
abbrev pub bytes : ℕ → ℕ → List ℕ
bytes zero x = []
bytes (suc n) x = x / 2 ^ (8 * n) % 256 ∷ bytes n x

-- how many zero bytes the padding has: the fewest that leave 8 bytes free in a block of 64
abbrev pub zeros : ℕ → ℕ
zeros n = (119 - n % 64) % 64

-- the message, the bit 1, zeros, and the length in bits as a number of 64 bits
-- the standard's messages have fewer than 2 ^ 64 bits; of a longer one the length is taken modulo 2 ^ 64
unfoldable pub pad : List ℕ → List ℕ
pad message = message ++ 0x80 ∷ (replicate (zeros (length message)) 0 ++ bytes 8 (length message * 8 % 2 ^ 64))

-- block i of a padded message: 64 bytes
abbrev pub block : List ℕ → ℕ → List ℕ
block message i = between (64 * i) (64 * i + 64) message

-- word t of a block: four bytes, the most significant first
abbrev pub word : List ℕ → ℕ → ℕ
word b t = slice_index b (4 * t) * 2 ^ 24 + slice_index b (4 * t + 1) * 2 ^ 16 + slice_index b (4 * t + 2) * 2 ^ 8 + slice_index b (4 * t + 3)

-- the sixteen words of a block
unfoldable pub words : List ℕ → List ℕ
words b = map (word b) (range_with_len 0 16)
