-- The list of a byte coin: its length, its first bit, what is behind it, and the whole list.
use Rattle.std.proofs.Common.{◌≡◌, ℕ, zero, suc, ◌+◌, ◌-◌, ◌*◌, ◌/◌, ◌%◌, ◌<◌, ◌≤◌, true, List, [], ◌∷◌, ◌++◌, length, refl, ap, add-suc, add-zero, arith, lit<}
use Rattle.std.proofs.lemmas.Grind.{common_steps}
use Rattle.coins.specs.Bits.{are_bits, bit_of}
use Rattle.coins.specs.Bytes.{all_bits, bit_behind, byte_bits, last_bits}

pub last_bits_length : (bs : List ℕ) (n : ℕ) → length (last_bits bs n) ≡ n
unfolding last_bits
last_bits_length bs zero = refl
last_bits_length bs (suc n) = ap suc (last_bits_length bs n)

-- each of them is a bit
pub last_bits_each : (bs : List ℕ) (n : ℕ) → are_bits (last_bits bs n) ≡ true
unfolding last_bits
last_bits_each bs zero = refl
last_bits_each bs (suc n) = grind (arith, common_steps, last_bits_each bs n)

-- the next bit, and the bits behind it
pub last_bits_step : (bs : List ℕ) (n : ℕ) → 0 < n → last_bits bs n ≡ bit_behind bs (n - 1) ∷ last_bits bs (n - 1)
unfolding last_bits
last_bits_step bs zero more = absurd (omega arith)
last_bits_step bs (suc n) more = let e : suc n - 1 ≡ n = omega arith in rw e refl

-- a byte put in front changes no bit behind it
last_bits_front : (b : ℕ) (bs : List ℕ) (n : ℕ) → n ≤ 8 * length bs → last_bits (b ∷ bs) n ≡ last_bits bs n
unfolding last_bits
last_bits_front b bs zero within = refl
last_bits_front b bs (suc n) within = grind (arith, common_steps, last_bits_front b bs n)

-- the bit with 8 j + k bits behind it is bit k of the byte with j bytes behind it
first_byte_step : (b : ℕ) (bs : List ℕ) (k : ℕ) → k < 8 → last_bits (b ∷ bs) (8 * length bs + suc k) ≡ bit_of b k ∷ last_bits (b ∷ bs) (8 * length bs + k)
unfolding last_bits
first_byte_step b bs k within =
    let q : (8 * length bs + k) / 8 ≡ length bs = omega arith in
    let r : (8 * length bs + k) % 8 ≡ k = omega arith in
    rw (add-suc (8 * length bs) k, last_bits, q, r) (grind (arith, common_steps))

-- the bits of the first byte, then those of the others
first_byte : (b : ℕ) (bs : List ℕ) → last_bits (b ∷ bs) (8 * length bs + 8) ≡ byte_bits b ++ last_bits (b ∷ bs) (8 * length bs)
first_byte b bs =
    let s : (k : ℕ) → k < 8 → last_bits (b ∷ bs) (8 * length bs + suc k) ≡ bit_of b k ∷ last_bits (b ∷ bs) (8 * length bs + k) = first_byte_step b bs in
    rw (s 7 (lit< tt), s 6 (lit< tt), s 5 (lit< tt), s 4 (lit< tt), s 3 (lit< tt), s 2 (lit< tt), s 1 (lit< tt), s 0 (lit< tt), add-zero) refl

-- all bits of the bytes are the last 8 for each byte
pub last_bits_all : (bs : List ℕ) → last_bits bs (8 * length bs) ≡ all_bits bs
unfolding last_bits
last_bits_all [] = refl
last_bits_all (b ∷ bs) =
    let e : 8 * suc (length bs) ≡ 8 * length bs + 8 = omega arith in
    rw (e, first_byte b bs, last_bits_front b bs (8 * length bs) (omega arith), last_bits_all bs) refl
