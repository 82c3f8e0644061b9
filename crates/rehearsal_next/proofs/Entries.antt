-- What a sealer of the list seals: the word itself, or zeros.
use Rattle.std.proofs.Common.{◌≡◌, ℕ, zero, suc, ◌+◌, ◌-◌, ◌*◌, ◌/◌, ◌%◌, ◌<◌, ◌≤◌, true, false, ◌&&◌, ltb, leb, List, ◌++◌, length, take, drop, sym, refl, ap, ◌∙◌, inl, inr, arith}
use Rattle.std.proofs.lemmas.List.{drop-append-le, take-append-le, length-drop, drop_all, take_all}
use Rattle.std.proofs.lemmas.Bool.{and_from, and_left, and_parts, and_right, cases_Bool, cases_lt, le-leb, leb-true, lt-ltb, ltb-true}
use Rattle.std.specs.List.{between}
use Rattle.words.specs.Checks.{entry_bytes, entry_or_zeros, entry_place, has_entry, in_range}
use Rattle.words.specs.Sealers.{PlainView, plain_seals}
use Rattle.words.specs.Words.{zero_word}
use Rattle.rehearsal_next.specs.Words.{has_word, sealer_of, word_list, word_of, word_or_zeros, words_to}
use Rattle.rehearsal_next.proofs.Words.{length_words, list_is}

-- the word at place k
abbrev at_place : ℕ → List ℕ
at_place k = word_of (k % 12 / 3) (k / 12 + 1) (k % 3)

-- a part of a list lies in its front, or is its end
between_front : (a : ℕ) (xs ys : List ℕ) → a + 32 ≤ length xs → between a (a + 32) (xs ++ ys) ≡ between a (a + 32) xs
between_front a xs ys fits =
    ap (take (a + 32 - a)) (drop-append-le a xs ys (omega arith)) ∙ take-append-le (a + 32 - a) (drop a xs) ys (omega (arith, length-drop a xs))

between_end : (a : ℕ) (xs ys : List ℕ) → length xs ≡ a → length ys ≡ 32 → between a (a + 32) (xs ++ ys) ≡ ys
between_end a xs ys front whole =
    ap (take (a + 32 - a)) (drop-append-le a xs ys (omega arith)) ∙ (ap (λ (l : List ℕ). take (a + 32 - a) (l ++ ys)) (drop_all a xs (omega arith)) ∙ take_all (a + 32 - a) ys (omega arith))

words_at : (n k : ℕ) → k < n → between (32 * k) (32 * k + 32) (words_to n) ≡ at_place k
unfolding words_to
words_at zero k below = absurd (omega arith)
words_at (suc n) k below =
    elim (cases_lt k n) [
      | inl lower ↦ between_front (32 * k) (words_to n) (at_place n) (omega (arith, length_words n)) ∙ words_at n k lower
      | inr last ↦
          let here : n ≡ k = omega arith in
          between_end (32 * k) (words_to n) (at_place n) (omega (arith, length_words n)) refl ∙ ap at_place here
    ]

-- the entry for a cabin, a phase and a value
entry_is : (i φ v : ℕ) → i < 4 → 1 ≤ φ → φ ≤ 12 → v ≤ 2 → entry_bytes word_list i φ v ≡ word_of i φ v
entry_is i φ v cabin first last value =
    let own : ((φ - 1) * 12 + 3 * i + v) % 12 / 3 ≡ i = omega arith in
    let phase : ((φ - 1) * 12 + 3 * i + v) / 12 + 1 ≡ φ = omega arith in
    let said : ((φ - 1) * 12 + 3 * i + v) % 3 ≡ v = omega arith in
    words_at 144 ((φ - 1) * 12 + 3 * i + v) (omega arith) ∙ rw (own, phase, said) refl

-- the bounds that a word has
pub record Bounds (i φ v : ℕ) : Type 0 where
  pub cabin : i < 4
  pub first : 1 ≤ φ
  pub last : φ ≤ 12
  pub value : v ≤ 2

bounds : (i φ v : ℕ) → has_word i φ v ≡ true → Bounds i φ v
bounds i φ v e =
    let outer = and_parts (ltb i 4) (in_range 12 φ v) e in
    let inner = and_parts (leb 1 φ) (leb φ 12 && leb v 2) outer.1 in
    let rest = and_parts (leb φ 12) (leb v 2) inner.1 in
    record {
      cabin = ltb-true i 4 outer.0;
      first = leb-true 1 φ inner.0;
      last = leb-true φ 12 rest.0;
      value = leb-true v 2 rest.1;
    }

-- the sealer of a cabin below 4
sealer_is : (i : ℕ) → ltb i 4 ≡ true → sealer_of i ≡ record { cabin = i; list = word_list }
sealer_is i e = rw (e, list_is) refl

-- a word of the list
seals_word : (i φ v : ℕ) → Bounds i φ v → entry_or_zeros word_list i φ v ≡ word_of i φ v
seals_word i φ v b =
    let cabin = lt-ltb i 4 b.cabin in
    let range = and_from (leb 1 φ) (leb φ 12 && leb v 2) (le-leb 1 φ b.first) (and_from (leb φ 12) (leb v 2) (le-leb φ 12 b.last) (le-leb v 2 b.value)) in
    let within = le-leb (entry_place 4 i φ v + 32) (length (words_to 144)) (omega (arith, length_words 144, b.cabin, b.last, b.value)) in
    let has : has_entry word_list i φ v ≡ true = and_from (ltb i 4) (in_range 12 φ v && leb (entry_place 4 i φ v + 32) (length (words_to 144))) cabin (and_from (in_range 12 φ v) (leb (entry_place 4 i φ v + 32) (length (words_to 144))) range within) in
    rw has (entry_is i φ v b.cabin b.first b.last b.value)

-- the empty sealer seals zeros
no_phase : (φ v : ℕ) → in_range 0 φ v ≡ false
no_phase φ v =
    elim (cases_Bool (in_range 0 φ v)) [
      | inl e ↦
          let parts = and_parts (leb 1 φ) (leb φ 0 && leb v 2) e in
          let rest = and_parts (leb φ 0) (leb v 2) parts.1 in
          absurd (omega (arith, leb-true 1 φ parts.0, leb-true φ 0 rest.0))
      | inr e ↦ e
    ]

seals_nothing : (i φ v : ℕ) → ltb i 4 ≡ false → plain_seals (sealer_of i) φ v ≡ zero_word
seals_nothing i φ v e = rw (e, no_phase φ v) refl

seals_past : (i φ v : ℕ) → in_range 12 φ v ≡ false → entry_or_zeros word_list i φ v ≡ zero_word
seals_past i φ v e =
    let none : has_entry word_list i φ v ≡ false = and_right (ltb i 4) _ (and_left (in_range 12 φ v) _ e) in
    rw none refl

-- by the three cases: a word, a cabin that does not exist, a phase or a value that the list does not have
pub sealed_word : (i φ v : ℕ) → plain_seals (sealer_of i) φ v ≡ word_or_zeros i φ v
unfolding word_or_zeros
sealed_word i φ v =
    elim (cases_Bool (has_word i φ v)) [
      | inl e ↦
          let b = bounds i φ v e in
          let shown : word_or_zeros i φ v ≡ word_of i φ v = rw e refl in
          ap (λ (s : PlainView). plain_seals s φ v) (sealer_is i (lt-ltb i 4 b.cabin)) ∙ (seals_word i φ v b ∙ sym shown)
      | inr e ↦
          let shown : word_or_zeros i φ v ≡ zero_word = rw e refl in
          elim (cases_Bool (ltb i 4)) [
            | inl cabin ↦
                let range : in_range 12 φ v ≡ false = rw cabin at e in
                ap (λ (s : PlainView). plain_seals s φ v) (sealer_is i cabin) ∙ (seals_past i φ v range ∙ sym shown)
            | inr none ↦ seals_nothing i φ v none ∙ sym shown
          ]
    ]

-- the word that the sealer of a cabin gave
pub word_from : (s : PlainView) (i φ ψ v : ℕ) (word : List ℕ) → s ≡ sealer_of i → ψ ≡ φ → word ≡ plain_seals s ψ v → word ≡ word_or_zeros i φ v
word_from s i φ ψ v word ours same given = given ∙ rw (ours, same) (sealed_word i φ v)
