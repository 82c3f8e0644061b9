-- The hash over the blocks of a message, and of a message in two parts.
-- Assumes nothing.
use Rattle.std.proofs.Common.{◌≡◌, ℕ, zero, suc, ◌+◌, ◌-◌, ◌*◌, ◌/◌, ◌≤◌, List, ◌++◌, length, take, drop, sym, refl, ap, ◌∙◌, ap₂, add-zero, add-suc, arith}
use Rattle.std.proofs.lemmas.List.{length-append, length-drop, drop-drop, drop-append-le, take-append-le, take_at, drop_at, take_all}
use Rattle.std.specs.List.{fold}
use Rattle.std.specs.Simd.{first_chunks}
use Rattle.words.specs.Constants.{H⁰}
use Rattle.words.specs.Padding.{pad, block}
use Rattle.words.specs.Computation.{compress, digest, hash, sha_256}

-- a block within the first part is that part's
block_append : (m x : List ℕ) (i : ℕ) → 64 * i + 64 ≤ length m → block (m ++ x) i ≡ block m i
block_append m x i h =
    let k : 64 * i + 64 - 64 * i ≤ length (drop (64 * i) m) = simp length-drop (omega arith) in
    ap (take (64 * i + 64 - 64 * i)) (drop-append-le (64 * i) m x (omega arith)) ∙ take-append-le (64 * i + 64 - 64 * i) (drop (64 * i) m) x k

-- the hash of the blocks within the first part
hash_append : (H m x : List ℕ) (n : ℕ) → 64 * n ≤ length m → hash H (m ++ x) n ≡ hash H m n
unfolding hash
hash_append H m x zero h = refl
hash_append H m x (suc n) h = ap₂ compress (hash_append H m x n (omega arith)) (block_append m x n (omega arith))

-- the blocks after the first q
block_drop : (m : List ℕ) (q i : ℕ) → block (drop (64 * q) m) i ≡ block m (q + i)
block_drop m q i =
    let width : 64 * i + 64 - 64 * i ≡ 64 * (q + i) + 64 - 64 * (q + i) = omega arith in
    let from : 64 * q + 64 * i ≡ 64 * (q + i) = omega arith in
    ap (take (64 * i + 64 - 64 * i)) (drop-drop (64 * i) (64 * q) m) ∙ λ j. take (width j) (drop (from j) m)

hash_drop : (H m : List ℕ) (q n : ℕ) → hash (hash H m q) (drop (64 * q) m) n ≡ hash H m (q + n)
unfolding hash
hash_drop H m q zero = ap (hash H m) (sym (add-zero q))
hash_drop H m q (suc n) = ap₂ compress (hash_drop H m q n) (block_drop m q n) ∙ ap (hash H m) (sym (add-suc q n))

-- the first block, and then the others
pub hash_cons : (H b x : List ℕ) (n : ℕ) → length b ≡ 64 → hash H (b ++ x) (suc n) ≡ hash (compress H b) x n
unfolding hash
hash_cons H b x n long =
    let next : suc n ≡ 1 + n = omega arith in
    ap (hash H (b ++ x)) next
    ∙ sym (hash_drop H (b ++ x) 1 n)
    ∙ λ i. hash (compress H (take_at b x 64 long i)) (drop_at b x 64 long i) n

pub hash_one : (H b : List ℕ) → length b ≡ 64 → hash H b 1 ≡ compress H b
unfolding hash
hash_one H b long = ap (compress H) (take_all 64 b (omega arith))

-- the whole blocks, one after the other
pub hash_chunks : (H m : List ℕ) (n : ℕ) → fold compress H (first_chunks 64 n m) ≡ hash H m n
unfolding hash
hash_chunks H m zero = refl
hash_chunks H m (suc n) =
    let next : 1 + n ≡ suc n = omega arith in
    hash_chunks (compress H (take 64 m)) (drop 64 m) n ∙ hash_drop H m 1 n ∙ ap (hash H m) next

-- the whole blocks of the first part, and then the blocks of all that is left
hash_split : (H m x last : List ℕ) → last ≡ drop (64 * (length m / 64)) (m ++ x)
    → hash (hash H m (length m / 64)) last (length last / 64) ≡ hash H (m ++ x) (length (m ++ x) / 64)
hash_split H m x last e =
    let whole = hash_append H m x (length m / 64) (omega arith) in
    let count : length m / 64 + length last / 64 ≡ length (m ++ x) / 64 =
    omega (arith, length-append m x, ap length e, length-drop (64 * (length m / 64)) (m ++ x)) in
    ap₂ (λ (y z : List ℕ). hash y z (length last / 64)) (sym whole) e
    ∙ hash_drop H (m ++ x) (length m / 64) (length last / 64) ∙ ap (hash H (m ++ x)) count

-- the whole blocks of the message, and then the last blocks of the padded message
pub sha_256_made : (m start whole last value : List ℕ) → start ≡ H⁰ → whole ≡ hash start m (length m / 64)
    → last ≡ drop (64 * (length m / 64)) (pad m) → value ≡ hash whole last (length last / 64) → digest value ≡ sha_256 m
unfolding pad sha_256
sha_256_made m start whole last value s w e v =
    ap digest (v ∙ ap (λ (x : List ℕ). hash x last (length last / 64)) (w ∙ ap (λ (x : List ℕ). hash x m (length m / 64)) s) ∙ hash_split H⁰ m _ last e)
