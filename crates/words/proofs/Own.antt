-- Own words that pass, one by one and all together.
use Rattle.std.proofs.Common.{◌≡◌, ℕ, zero, suc, ◌+◌, ◌-◌, ◌*◌, ◌/◌, ◌%◌, ◌<◌, ◌≤◌, true, false, ◌&&◌, leb, List, sym, refl, ◌∙◌, inl, inr, arith}
use Rattle.std.proofs.lemmas.Bool.{and_from, and_parts, cases_Bool, cases_eq, cond-false, cond-true, le-leb, leb-true, true≢false}
use Rattle.words.specs.Checks.{ListView, hashed_answers, in_range}
use Rattle.words.specs.Own.{own_or_zeros, own_pass, own_word}
use Rattle.words.specs.Words.{zero_word}

pub own_pass_none : (l : ListView) (i : ℕ) (own : List ℕ) → own_pass l i own 0 ≡ true
unfolding own_pass
own_pass_none l i own = refl

-- a lawful phase and value
lawful : (last φ v : ℕ) → 1 ≤ φ → φ ≤ last → v ≤ 2 → in_range last φ v ≡ true
lawful last φ v begun ended valued =
    and_from (leb 1 φ) (leb φ last && leb v 2) (le-leb 1 φ begun) (and_from (leb φ last) (leb v 2) (le-leb φ last ended) (le-leb v 2 valued))

-- the check of the own word for such a phase and value
answers_at : (l : ListView) (i : ℕ) (own : List ℕ) (last φ v : ℕ) (word : List ℕ) → 1 ≤ φ → φ ≤ last → v ≤ 2 → word ≡ own_or_zeros last own φ v → hashed_answers l i ((3 * (φ - 1) + v) / 3 + 1) ((3 * (φ - 1) + v) % 3) (own_word own (3 * (φ - 1) + v)) ≡ hashed_answers l i φ v word
answers_at l i own last φ v word begun ended valued given =
    let k = 3 * (φ - 1) + v in
    let phase : k / 3 + 1 ≡ φ = omega arith in
    let value : k % 3 ≡ v = omega arith in
    let here : word ≡ own_word own k = given ∙ cond-true (in_range last φ v) (own_word own k) zero_word (lawful last φ v begun ended valued) in
    rw (phase, value, here) refl

-- where it passes and those before it do, one own word more passes
pub own_pass_more : (l : ListView) (i : ℕ) (own : List ℕ) (last φ v : ℕ) (word : List ℕ) → 1 ≤ φ → φ ≤ last → v ≤ 2 → word ≡ own_or_zeros last own φ v → hashed_answers l i φ v word ≡ true → own_pass l i own (3 * (φ - 1) + v) ≡ true → own_pass l i own (3 * (φ - 1) + (v + 1)) ≡ true
unfolding own_pass
own_pass_more l i own last φ v word begun ended valued given passed before =
    let next : 3 * (φ - 1) + (v + 1) ≡ suc (3 * (φ - 1) + v) = omega arith in
    rw (next, before) (answers_at l i own last φ v word begun ended valued given ∙ passed)

-- where the first m pass, the k-th does
own_pass_at : (l : ListView) (i : ℕ) (own : List ℕ) (m k : ℕ) → own_pass l i own m ≡ true → k < m → hashed_answers l i (k / 3 + 1) (k % 3) (own_word own k) ≡ true
unfolding own_pass
own_pass_at l i own zero k all below = absurd (omega arith)
own_pass_at l i own (suc m) k all below =
    let p = and_parts (own_pass l i own m) (hashed_answers l i (m / 3 + 1) (m % 3) (own_word own m)) all in
    elim (cases_eq k m) [
      | inl e ↦ rw e p.1
      | inr ne ↦ own_pass_at l i own m k p.0 (omega arith)
    ]

-- so the own word for each phase and value does
own_passes_at : (l : ListView) (i : ℕ) (own : List ℕ) (last φ v : ℕ) (word : List ℕ) → own_pass l i own (3 * last) ≡ true → 1 ≤ φ → φ ≤ last → v ≤ 2 → word ≡ own_or_zeros last own φ v → hashed_answers l i φ v word ≡ true
own_passes_at l i own last φ v word all begun ended valued given =
    sym (answers_at l i own last φ v word begun ended valued given) ∙ own_pass_at l i own (3 * last) (3 * (φ - 1) + v) all (omega arith)

pub own_passes : (l : ListView) (i : ℕ) (own : List ℕ) (last φ v : ℕ) (word : List ℕ) → own_pass l i own (3 * last) ≡ true → word ≡ own_or_zeros last own φ v → in_range last φ v ≡ true → hashed_answers l i φ v word ≡ true
own_passes l i own last φ v word all given ranged =
    let begun = and_parts (leb 1 φ) (leb φ last && leb v 2) ranged in
    let ended = and_parts (leb φ last) (leb v 2) begun.1 in
    own_passes_at l i own last φ v word all (leb-true 1 φ begun.0) (leb-true φ last ended.0) (leb-true v 2 ended.1) given

-- and where it does not, not all pass
pub own_pass_fails : (l : ListView) (i : ℕ) (own : List ℕ) (last φ v : ℕ) (word : List ℕ) → 1 ≤ φ → φ ≤ last → v ≤ 2 → word ≡ own_or_zeros last own φ v → hashed_answers l i φ v word ≡ false → own_pass l i own (3 * last) ≡ false
own_pass_fails l i own last φ v word begun ended valued given failed =
    elim (cases_Bool (own_pass l i own (3 * last))) [
      | inl all ↦ absurd (true≢false (sym (own_passes_at l i own last φ v word all begun ended valued given) ∙ failed))
      | inr e ↦ e
    ]

-- and there is none for others
pub own_zeros : (last : ℕ) (own : List ℕ) (φ v : ℕ) (word : List ℕ) → word ≡ own_or_zeros last own φ v → in_range last φ v ≡ false → word ≡ zero_word
own_zeros last own φ v word given unlawful =
    given ∙ cond-false (in_range last φ v) (own_word own (3 * (φ - 1) + v)) zero_word unlawful
