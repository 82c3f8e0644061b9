-- The hash computation of SHA-256: FIPS 180-4, section 6.2.2.
-- Assumes nothing.
use Rattle.std.specs.Prelude.{ℕ, zero, suc, ◌-◌, ◌/◌, cond, List, [], ◌∷◌, ◌++◌, length, nat_lt, slice_index}
use Rattle.std.specs.List.{flat_map}
use Rattle.words.specs.Functions.{◌⊞◌, Ch, Maj, Σ0, Σ1, σ0, σ1}
use Rattle.words.specs.Constants.{K, H⁰}
use Rattle.words.specs.Padding.{pad, block, words, bytes}

-- step 1: word t of the message schedule from the words before it, where t is at least 16
abbrev pub next_word : List ℕ → ℕ → ℕ
next_word W t = σ1 (slice_index W (t - 2)) ⊞ slice_index W (t - 7) ⊞ σ0 (slice_index W (t - 15)) ⊞ slice_index W (t - 16)

-- step 1: the first t words of the message schedule of the block of words M
unfoldable pub schedule : List ℕ → ℕ → List ℕ
schedule M zero = []
schedule M (suc t) = schedule M t ++ cond (nat_lt t 16) (slice_index M t) (next_word (schedule M t) t) ∷ []

-- step 3: the first sum of a round
abbrev pub T₁ : ℕ → ℕ → ℕ → ℕ → ℕ → ℕ → ℕ
T₁ e f g h k w = h ⊞ Σ1 e ⊞ Ch e f g ⊞ k ⊞ w

-- step 3: the second sum of a round
abbrev pub T₂ : ℕ → ℕ → ℕ → ℕ
T₂ a b c = Σ0 a ⊞ Maj a b c

-- step 3: the working variables a to h after a round
abbrev pub after_round : ℕ → ℕ → ℕ → ℕ → ℕ → ℕ → ℕ → ℕ → ℕ → ℕ → List ℕ
after_round a b c d e f g h k w = (T₁ e f g h k w ⊞ T₂ a b c) ∷ a ∷ b ∷ c ∷ (d ⊞ T₁ e f g h k w) ∷ e ∷ f ∷ g ∷ []

-- step 3: a round on the list v of the working variables, with the constant k and the word w
unfoldable pub round : List ℕ → ℕ → ℕ → List ℕ
round v k w = after_round (slice_index v 0) (slice_index v 1) (slice_index v 2) (slice_index v 3) (slice_index v 4) (slice_index v 5) (slice_index v 6) (slice_index v 7) k w

-- steps 2 and 3: the working variables after the rounds below t, from the hash value H and the message schedule W
unfoldable pub rounds : List ℕ → List ℕ → ℕ → List ℕ
rounds W H zero = H
rounds W H (suc t) = round (rounds W H t) (K t) (slice_index W t)

-- step 4: the working variables added to the hash value H
unfoldable pub added : List ℕ → List ℕ → List ℕ
added v H =
    (slice_index v 0 ⊞ slice_index H 0) ∷ (slice_index v 1 ⊞ slice_index H 1) ∷ (slice_index v 2 ⊞ slice_index H 2) ∷ (slice_index v 3 ⊞ slice_index H 3)
    ∷ (slice_index v 4 ⊞ slice_index H 4) ∷ (slice_index v 5 ⊞ slice_index H 5) ∷ (slice_index v 6 ⊞ slice_index H 6) ∷ (slice_index v 7 ⊞ slice_index H 7) ∷ []

-- the next hash value, from the hash value H and a block of bytes
unfoldable pub compress : List ℕ → List ℕ → List ℕ
compress H b = added (rounds (schedule (words b) 64) H 64) H

-- the hash value after the first n blocks of a padded message, from the hash value H
unfoldable pub hash : List ℕ → List ℕ → ℕ → List ℕ
hash H message zero = H
hash H message (suc n) = compress (hash H message n) (block message n)

-- the bytes of the words of a hash value
unfoldable pub digest : List ℕ → List ℕ
digest H = flat_map (bytes 4) H

-- the digest of a message
unfoldable pub sha_256 : List ℕ → List ℕ
sha_256 message = digest (hash H⁰ (pad message) (length (pad message) / 64))
