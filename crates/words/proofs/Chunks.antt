-- The chunks of a list.
-- Assumes nothing.
use Rattle.std.proofs.Common.{◌≡◌, ℕ, zero, suc, ◌+◌, ◌*◌, ◌<◌, List, [], get_or, take, drop, ap, ◌∙◌, not-suc-le-zero, ◌^◌, add-zero, arith}
use Rattle.std.specs.Simd.{first_chunks}
use Rattle.std.proofs.lemmas.List.{drop-drop}
use Rattle.std.proofs.lemmas.Simd.{get_or-chunk}
use Rattle.words.specs.Padding.{word}

-- chunk i of the first k chunks of n elements
pub chunk_at : (n k i : ℕ) (xs : List ℕ) → i < k → get_or (first_chunks n k xs) i [] ≡ take n (drop (n * i) xs)
chunk_at n zero i xs h = absurd (not-suc-le-zero h)
chunk_at n (suc k) zero xs h = let none : 0 ≡ n * 0 = omega arith in ap (λ (j : ℕ). take n (drop j xs)) none
chunk_at n (suc k) (suc i) xs h =
    let next : n + n * i ≡ n * suc i = omega arith in
    chunk_at n k i (drop n xs) (omega arith) ∙ ap (take n) (drop-drop (n * i) n xs ∙ ap (λ (j : ℕ). drop j xs) next)

-- word t of a block, read from the chunks of four bytes
pub word_at : (b : List ℕ) (cs : List (List ℕ)) (k t : ℕ) → cs ≡ first_chunks 4 k b → t < k
    → get_or (get_or cs t []) 0 0 * 2 ^ 24 + get_or (get_or cs t []) 1 0 * 2 ^ 16 + get_or (get_or cs t []) 2 0 * 2 ^ 8 + get_or (get_or cs t []) 3 0 ≡ word b t
word_at b cs k t e h =
    let chunk = ap (λ (x : List (List ℕ)). get_or x t []) e ∙ chunk_at 4 k t b h in
    let byte = λ (j : ℕ) (l : j < 4). ap (λ (x : List ℕ). get_or x j 0) chunk ∙ get_or-chunk (4 * t) 4 b j 0 l in
    λ i.
    (byte 0 (omega arith) ∙ ap (λ (j : ℕ). get_or b j 0) (add-zero (4 * t))) i * 2 ^ 24 + byte 1 (omega arith) i * 2 ^ 16 + byte 2 (omega arith) i * 2 ^ 8
    + byte 3 (omega arith) i
