-- The bytes of the words of a hash value.
-- Assumes nothing.
use Rattle.std.proofs.Common.{◌≡◌, ℕ, zero, suc, ◌+◌, ◌*◌, ◌/◌, ◌%◌, ◌^◌, ◌<◌, ◌≤◌, List, [], ◌∷◌, ◌++◌, length, get_or, take, drop, sym, refl, ap, ◌∙◌, div-one, arith}
use Rattle.std.proofs.lemmas.List.{flat_map_more, take_more, length-append, length-drop, length-take-le}
use Rattle.std.proofs.lemmas.Slice.{take-put_mid}
use borrow.Rule.Slice.PartMut.{put_mid}
use Rattle.words.specs.Padding.{bytes}
use Rattle.words.specs.Computation.{digest}

-- what `to_be_bytes` gives, at a number of n bytes
abbrev plain : ℕ → ℕ → List ℕ
plain zero x = []
plain (suc zero) x = x % 256 ∷ []
plain (suc (suc n)) x = x / 2 ^ (8 * suc n) % 256 ∷ plain (suc n) x

pub plain_bytes : (n x : ℕ) → plain n x ≡ bytes n x
plain_bytes zero x = refl
plain_bytes (suc zero) x = ap (λ (y : ℕ). y % 256 ∷ []) (sym (div-one x))
plain_bytes (suc (suc n)) x = ap (λ (ys : List ℕ). x / 2 ^ (8 * suc n) % 256 ∷ ys) (plain_bytes (suc n) x)

-- a copy into a part leaves the length
pub length_copied : (at k : ℕ) (out ys : List ℕ) → at + k ≤ length out → length ys ≡ k → length (put_mid at k out ys) ≡ length out
length_copied at k out ys h e =
    omega (arith, length-append (take at out) (ys ++ drop k (drop at out)), length-append ys (drop k (drop at out)), length-take-le at out (omega arith), length-drop k (drop at out), length-drop at out)

-- one more word of the digest, copied behind those before it
pub digest_more : (H out ys : List ℕ) (i n : ℕ) → i < length H → 4 * i ≤ length out → take (4 * i) out ≡ digest (take i H)
    → ys ≡ bytes 4 (get_or H i 0) → take (4 * (i + 1)) (put_mid (4 * i) n out ys) ≡ digest (take (i + 1) H)
unfolding digest
digest_more H out ys i n h l was e =
    take-put_mid (4 * i) n out ys (4 * (i + 1)) (omega (arith, ap length e)) l
    ∙ (λ j. was j ++ e j)
    ∙ flat_map_more (bytes 4) [] (take i H) (get_or H i 0)
    ∙ ap digest (sym (take_more H i 0 h))
