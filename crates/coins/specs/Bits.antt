-- A list of bits to come, and what a toss takes of it. Assumes nothing.
use Rattle.std.specs.Prelude.{ℕ, ◌/◌, ◌%◌, ◌^◌, Bool, true, ◌&&◌, List, [], ◌∷◌, nat_le}

-- bit j of a number, from the lowest
abbrev pub bit_of : ℕ → ℕ → ℕ
bit_of n j = n / 2 ^ j % 2

-- the first bit; 0 where none is left
abbrev pub first_bit : List ℕ → ℕ
first_bit [] = 0
first_bit (b ∷ bs) = b

-- the bits behind the first; with none left there are none again
abbrev pub bits_after : List ℕ → List ℕ
bits_after [] = []
bits_after (b ∷ bs) = bs

-- every one of them is 0 or 1
abbrev pub are_bits : List ℕ → Bool
are_bits [] = true
are_bits (b ∷ bs) = nat_le b 1 && are_bits bs
