-- The words of the message schedule, by the standard's rule for each.
-- Assumes nothing.
use Rattle.std.proofs.Common.{◌≡◌, ℕ, zero, suc, ◌+◌, ◌-◌, ◌<◌, ◌≤◌, Bool, cond, ltb, List, length, get_or, take, set, sym, refl, ap, ◌∙◌, inl, inr, not-suc-le-zero, add-one, arith, le-ltb, lt-ltb}
use Rattle.std.proofs.lemmas.List.{length_push, get_or_push, get_or_append_left, get_or-set_same, get_or-set_other, get_or-take, ext_get_or}
use Rattle.std.proofs.lemmas.Bool.{cases_eq}
use Rattle.words.specs.Functions.{◌⊞◌, σ0, σ1}
use Rattle.words.specs.Computation.{next_word, schedule}

pub length_schedule : (M : List ℕ) (n : ℕ) → length (schedule M n) ≡ n
unfolding schedule
length_schedule M zero = refl
length_schedule M (suc n) = length_push (schedule M n) _ ∙ ap (λ (k : ℕ). k + 1) (length_schedule M n) ∙ add-one n

-- a word stays as it is while the schedule grows
stays : (M : List ℕ) (t n : ℕ) → t < n → get_or (schedule M n) t 0 ≡ get_or (schedule M (suc t)) t 0
unfolding schedule
stays M t zero h = absurd (not-suc-le-zero h)
stays M t (suc n) h =
    elim (cases_eq t n) [
      | inl e ↦ ap (λ (k : ℕ). get_or (schedule M (suc k)) t 0) (sym e)
      | inr ne ↦
          let l : t < n = omega arith in
          let k : t < length (schedule M n) = omega (arith, length_schedule M n) in
          get_or_append_left (schedule M n) _ 0 t k ∙ stays M t n l
    ]

-- two lists with the same words below t have the same next word
pub next_word_same : (V W : List ℕ) (t : ℕ) → 16 ≤ t → ((k : ℕ) → k < t → get_or V k 0 ≡ get_or W k 0) → next_word V t ≡ next_word W t
next_word_same V W t h same =
    λ i. σ1 (same (t - 2) (omega arith) i) ⊞ same (t - 7) (omega arith) i ⊞ σ0 (same (t - 15) (omega arith) i) ⊞ same (t - 16) (omega arith) i

-- the last word of a schedule
last : (M : List ℕ) (t : ℕ) → get_or (schedule M (suc t)) t 0 ≡ cond (ltb t 16) (get_or M t 0) (next_word (schedule M t) t)
unfolding schedule
last M t = get_or_push (schedule M t) _ 0 t (length_schedule M t)

-- the first sixteen words are those of the block
pub schedule_first : (M : List ℕ) (t n : ℕ) → t < 16 → t < n → get_or (schedule M n) t 0 ≡ get_or M t 0
schedule_first M t n h l =
    stays M t n l ∙ last M t ∙ ap (λ (b : Bool). cond b (get_or M t 0) (next_word (schedule M t) t)) (lt-ltb t 16 h)

-- each later word comes from those before it
pub schedule_next : (M : List ℕ) (t n : ℕ) → 16 ≤ t → t < n → get_or (schedule M n) t 0 ≡ next_word (schedule M n) t
schedule_next M t n h l =
    stays M t n l ∙ last M t
    ∙ ap (λ (b : Bool). cond b (get_or M t 0) (next_word (schedule M t) t)) (le-ltb t 16 h)
    ∙ next_word_same (schedule M t) (schedule M n) t h (λ k m. stays M k t m ∙ sym (stays M k n (omega arith)))

-- a list with the words below 16 of the schedule, to begin with
pub words_none : (w : List ℕ) (k : ℕ) → k < 16 → get_or w k 0 ≡ get_or (schedule (take 16 w) 64) k 0
words_none w k h = sym (schedule_first (take 16 w) k 64 h (omega arith) ∙ get_or-take 16 w k 0 h)

-- one more word of the schedule
pub words_more : (M w : List ℕ) (t : ℕ) → 16 ≤ t → t < 64 → length w ≡ 64 → ((k : ℕ) → k < t → get_or w k 0 ≡ get_or (schedule M 64) k 0)
    → (k : ℕ) → k < t + 1 → get_or (set w t (next_word w t)) k 0 ≡ get_or (schedule M 64) k 0
words_more M w t low high long was k l =
    elim (cases_eq k t) [
      | inl same ↦
          ap (λ (j : ℕ). get_or (set w t (next_word w t)) j 0) same
          ∙ get_or-set_same w t (next_word w t) 0 (omega arith)
          ∙ next_word_same w (schedule M 64) t low was
          ∙ sym (schedule_next M t 64 low high)
          ∙ ap (λ (j : ℕ). get_or (schedule M 64) j 0) (sym same)
      | inr other ↦ get_or-set_other w t k _ 0 other ∙ was k (omega arith)
    ]

-- a list of all its words is the schedule
pub words_all : (M w : List ℕ) → length w ≡ 64 → ((k : ℕ) → k < 64 → get_or w k 0 ≡ get_or (schedule M 64) k 0) → w ≡ schedule M 64
words_all M w long was = ext_get_or 0 w (schedule M 64) (long ∙ sym (length_schedule M 64)) (λ k l. was k (omega arith))
