-- The blocks that end a padded message.
-- Assumes nothing.
use Rattle.std.proofs.Common.{◌≡◌, ℕ, suc, ◌+◌, ◌-◌, ◌*◌, ◌/◌, ◌%◌, ◌^◌, ◌<◌, ◌≤◌, List, ◌∷◌, ◌++◌, length, take, drop, set, replicate, sym, refl, ap, ◌∙◌, append_assoc, arith}
use Rattle.std.proofs.Math.Seq.{take-append-add}
use Rattle.std.proofs.lemmas.List.{append-nil, length-append, length-drop, length-replicate, length-take-le, drop_all, drop-drop, drop-append-le, drop-replicate, replicate-append-replicate, set_at, take-replicate}
use borrow.Rule.Slice.PartMut.{put_mid}
use Rattle.words.specs.Computation.{compress, hash}
use Rattle.words.specs.Padding.{bytes, pad, zeros}
use Rattle.words.proofs.Blocks.{hash_cons, hash_one}

-- a copy into the last eight bytes of a block
pub put_end : (block ys size : List ℕ) → length block ≡ 64 → ys ≡ size → put_mid 56 8 block ys ≡ take 56 block ++ size
put_end block ys size long e =
    λ i. take 56 block ++ ((ap (λ (x : List ℕ). ys ++ x) (drop-drop 8 56 block ∙ drop_all 64 block (omega arith)) ∙ append-nil ys ∙ e) i)

-- a block of zeros with the front of it written, and the byte 80h after that
pub marked : (front ys : List ℕ) → length front < 64 → ys ≡ front
    → set (ys ++ drop (length front) (replicate 64 0)) (length front) 0x80 ≡ front ++ 0x80 ∷ replicate (63 - length front) 0
marked front ys h e =
    let left : 64 - length front ≡ suc (63 - length front) = omega arith in
    (λ i. set (e i ++ (drop-replicate (length front) 64 0 ∙ ap (λ (n : ℕ). replicate n 0) left) i) (length front) 0x80)
    ∙ set_at front 0 (replicate (63 - length front) 0) 0x80 (length front) refl

length_marked : (front : List ℕ) (k : ℕ) → length (front ++ 0x80 ∷ replicate k 0) ≡ length front + suc k
length_marked front k = length-append front (0x80 ∷ replicate k 0) ∙ ap (λ (n : ℕ). length front + suc n) (length-replicate {A = ℕ} k 0)

-- the front, the byte 80h and z of the zeros after it
take_marked : (front : List ℕ) (n k z : ℕ) → n ≡ length front + suc z → z ≤ k → take n (front ++ 0x80 ∷ replicate k 0) ≡ front ++ 0x80 ∷ replicate z 0
take_marked front n k z e l =
    ap (λ (j : ℕ). take j (front ++ 0x80 ∷ replicate k 0)) e
    ∙ take-append-add front (0x80 ∷ replicate k 0) (suc z)
    ∙ ap (λ (x : List ℕ). front ++ 0x80 ∷ x) (take-replicate z k 0 l)

module _ (m front : List ℕ) (is : front ≡ drop (64 * (length m / 64)) m) where
  size : List ℕ
  size = bytes 8 (length m * 8 % 2 ^ 64)

  long : length front ≡ length m % 64
  long = omega (arith, ap length is, length-drop (64 * (length m / 64)) m)

  -- what is left of the padded message
  left : drop (64 * (length m / 64)) (pad m) ≡ front ++ 0x80 ∷ (replicate (zeros (length m)) 0 ++ size)
  unfolding pad size
  left =
      drop-append-le (64 * (length m / 64)) m (0x80 ∷ (replicate (zeros (length m)) 0 ++ size)) (omega arith)
      ∙ ap (λ (x : List ℕ). x ++ 0x80 ∷ (replicate (zeros (length m)) 0 ++ size)) (sym is)

  -- where the length fits behind the front, that is one block
  pub one_left : length front ≤ 55 → drop (64 * (length m / 64)) (pad m) ≡ take 56 (front ++ 0x80 ∷ replicate (63 - length front) 0) ++ bytes 8 (length m * 8 % 2 ^ 64)
  unfolding size
  one_left h =
      left
      ∙ sym
      (ap (λ (x : List ℕ). x ++ size) (take_marked front 56 (63 - length front) (zeros (length m)) (omega (arith, long)) (omega (arith, long)))
      ∙ append_assoc front (0x80 ∷ replicate (zeros (length m)) 0) size)

  -- where not, it is two
  pub two_left : 55 < length front
      → drop (64 * (length m / 64)) (pad m) ≡ (front ++ 0x80 ∷ replicate (63 - length front) 0) ++ (replicate 56 0 ++ bytes 8 (length m * 8 % 2 ^ 64))
  unfolding size
  two_left h =
      let both : zeros (length m) ≡ 63 - length front + 56 = omega (arith, long) in
      let parts : replicate (zeros (length m)) 0 ≡ replicate (63 - length front) 0 ++ replicate 56 0 =
      ap (λ (n : ℕ). replicate n 0) both ∙ sym (replicate-append-replicate (63 - length front) 56 0) in
      left
      ∙ (λ i. front ++ 0x80 ∷ (parts i ++ size))
      ∙ simp append_assoc

-- the length of a block whose last eight bytes are replaced
length_end : (block size : List ℕ) → length block ≡ 64 → length size ≡ 8 → length (take 56 block ++ size) ≡ 64
length_end block size b s = omega (arith, length-append (take 56 block) size, length-take-le 56 block (omega arith))

-- the hash over what is left, in one block
pub hash_one_left : (m front block last : List ℕ) (H : List ℕ) → front ≡ drop (64 * (length m / 64)) m → length front ≤ 55
    → block ≡ front ++ 0x80 ∷ replicate (63 - length front) 0 → last ≡ drop (64 * (length m / 64)) (pad m)
    → compress H (take 56 block ++ bytes 8 (length m * 8 % 2 ^ 64)) ≡ hash H last (length last / 64)
hash_one_left m front block last H is h b l =
    let end : List ℕ = take 56 block ++ bytes 8 (length m * 8 % 2 ^ 64) in
    let all : last ≡ end = l ∙ one_left m front is h ∙ (λ i. take 56 (sym b i) ++ bytes 8 (length m * 8 % 2 ^ 64)) in
    let full : length block ≡ 64 = omega (arith, ap length b, length_marked front (63 - length front)) in
    let one : length last / 64 ≡ 1 = omega (arith, ap length all, length_end block (bytes 8 (length m * 8 % 2 ^ 64)) full refl) in
    sym (ap (hash H last) one ∙ ap (λ (x : List ℕ). hash H x 1) all ∙ hash_one H end (length_end block (bytes 8 (length m * 8 % 2 ^ 64)) full refl))

-- in two blocks
pub hash_two_left : (m front block last : List ℕ) (H : List ℕ) → front ≡ drop (64 * (length m / 64)) m → 55 < length front
    → block ≡ front ++ 0x80 ∷ replicate (63 - length front) 0 → last ≡ drop (64 * (length m / 64)) (pad m)
    → compress (compress H block) (replicate 56 0 ++ bytes 8 (length m * 8 % 2 ^ 64)) ≡ hash H last (length last / 64)
hash_two_left m front block last H is h b l =
    let end : List ℕ = replicate 56 0 ++ bytes 8 (length m * 8 % 2 ^ 64) in
    let all : last ≡ block ++ end = l ∙ two_left m front is h ∙ (λ i. sym b i ++ end) in
    let full : length block ≡ 64 = omega (arith, ap length b, length_marked front (63 - length front), long m front is) in
    let two : length last / 64 ≡ 2 = omega (arith, ap length all, length-append block end) in
    sym (ap (hash H last) two ∙ ap (λ (x : List ℕ). hash H x 2) all ∙ hash_cons H block end 1 full ∙ hash_one (compress H block) end refl)
