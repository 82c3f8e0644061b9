-- The words of a rehearsal, and the bytes of a made-up record. Assumes nothing.
use Rattle.std.specs.Prelude.{ℕ, zero, suc, ◌+◌, ◌/◌, ◌%◌, Bool, cond, ◌&&◌, List, [], ◌∷◌, ◌++◌, replicate, nat_lt}
use Rattle.words.specs.Checks.{ListView, in_range, plain_answers}
use Rattle.words.specs.Sealers.{PlainView, empty_plain, make_plain, place_after, plain_seals}
use Rattle.words.specs.Words.{zero_word}
use Rattle.moves.specs.Announcing.{Sealing, sealing}
use Rattle.moves.specs.Judging.{Check}
use Rattle.script.specs.Settings.{rehearsal_settings}
use Rattle.rehearsal_next.specs.declared.claim.Claim.{Claim}

-- the word for cabin i, phase φ and value v: these three bytes and 29 zeros
abbrev pub word_of : ℕ → ℕ → ℕ → List ℕ
word_of i φ v = i ∷ φ ∷ v ∷ replicate 29 0

-- the words at the first k places of the list: three to a cabin, twelve to a phase
unfoldable pub words_to : ℕ → List ℕ
words_to zero = []
words_to (suc k) = words_to k ++ word_of (k % 12 / 3) (k / 12 + 1) (k % 3)

-- the plain list of all 144 words
abbrev pub word_list : ListView
word_list = record { cabins = 4; phases = 12; entries = words_to 144 }

abbrev pub word_check : Check
word_check = plain_answers word_list

-- the sealer of cabin i; a number that no cabin has leaves the empty one
abbrev pub sealer_of : ℕ → PlainView
sealer_of i = place_after (make_plain rehearsal_settings i (words_to 144)) empty_plain

abbrev pub sealing_of : ℕ → Sealing
sealing_of i = sealing (sealer_of i).cabin (sealer_of i).list.phases (plain_seals (sealer_of i))

-- the list has a word for cabins 0 to 3, phases 1 to 12 and values 0 to 2
abbrev pub has_word : ℕ → ℕ → ℕ → Bool
has_word i φ v = nat_lt i 4 && in_range 12 φ v

-- that word, or 32 zeros where there is none
unfoldable pub word_or_zeros : ℕ → ℕ → ℕ → List ℕ
word_or_zeros i φ v = cond (has_word i φ v) (word_of i φ v) zero_word

-- the bytes of a made-up record before its word: branch point 0, and byte 3 is 0
abbrev pub claim_head : Claim → List ℕ
claim_head x = x.cabin ∷ x.value ∷ x.status ∷ 0 ∷ 0 ∷ 0 ∷ 0 ∷ x.phase ∷ []

abbrev pub claim_bytes : Claim → List ℕ → List ℕ
claim_bytes x word = claim_head x ++ word

-- the whole record, with the list's word or zeros
abbrev pub claimed : Claim → List ℕ
claimed x = claim_bytes x (word_or_zeros x.cabin x.phase x.value)
