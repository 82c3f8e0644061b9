-- The list of words: one more of them, and how long it is.
use Rattle.std.proofs.Common.{◌≡◌, ℕ, zero, suc, ◌+◌, ◌*◌, ◌/◌, ◌%◌, [], ◌++◌, length, Ok, refl, ◌∙◌, add-one, arith}
use Rattle.std.proofs.lemmas.List.{length-append}
use Rattle.std.proofs.lemmas.Bool.{eq-eqb}
use Rattle.words.specs.Checks.{list_answer}
use Rattle.script.specs.Settings.{rehearsal_settings}
use Rattle.rehearsal_next.specs.Words.{word_list, word_of, words_to}

-- no word
pub words_none : words_to 0 ≡ []
unfolding words_to
words_none = refl

-- one word more
pub words_more : (k : ℕ) → words_to (k + 1) ≡ words_to k ++ word_of (k % 12 / 3) (k / 12 + 1) (k % 3)
unfolding words_to
words_more k = rw (add-one k)

pub length_words : (k : ℕ) → length (words_to k) ≡ 32 * k
unfolding words_to
length_words zero = refl
length_words (suc k) =
    length-append (words_to k) (word_of (k % 12 / 3) (k / 12 + 1) (k % 3)) ∙ omega (arith, length_words k)

-- the list is made, never refused
pub list_is : list_answer rehearsal_settings (words_to 144) ≡ Ok word_list
list_is = rw (eq-eqb (length (words_to 144)) 4608 (length_words 144)) refl
