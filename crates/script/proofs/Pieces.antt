-- The pieces of eight bytes that an input is cut into are its steps.
use Rattle.std.proofs.Common.{◌≡◌, ℕ, ◌+◌, ◌-◌, ◌*◌, ◌<◌, ◌≤◌, min, List, ◌++◌, length, get_or, drop, sym, refl, ap, ◌∙◌, Some, None, Bor, inl, inr, arith, length-drop}
use Rattle.std.proofs.lemmas.List.{drop_at, drop-drop, drop_min, get_or_append_left, get_or_past, get_or-drop}
use Rattle.std.proofs.lemmas.List.FromFn.{fill_by_all, get_or-map-range_with_len}
use Rattle.std.proofs.lemmas.Bool.{cases_lt}
use Rattle.std.specs.Iterator.Adapters.{enumerate_count, enumerate_source, enumerate_steps}
use Rattle.std.specs.Slice.Iter.{chunks_rest, chunks_size, chunks_steps}
use Rattle.std.specs.declared.iter.Enumerate.{Enumerate}
use Rattle.std.specs.declared.slice.Chunks.{Chunks}
use Rattle.script.specs.Steps.{filled_up, step_bytes, steps_in}

-- k steps were cut off the front, and this is left
pub record Left (input : List ℕ) (k : ℕ) (rest : List ℕ) : Type 0 where
  pub rest_is : rest ≡ drop (8 * k) input
  pub within : 8 * k < length input + 8

pub left_all : (input rest : List ℕ) → rest ≡ input → Left input 0 rest
left_all input rest e = record { rest_is = e; within = omega arith }

pub left_none : (input : List ℕ) (k : ℕ) (rest : List ℕ) → Left input k rest → length rest ≡ 0 → k ≡ steps_in input
left_none input k rest left none =
    let long : length rest ≡ length input - 8 * k = ap length left.rest_is ∙ length-drop (8 * k) input in
    omega arith

-- one step more was cut off: a piece of eight bytes, or what there is
module _ (input : List ℕ) (k : ℕ) (rest piece rest' : List ℕ) (left : Left input k rest) (cut : rest ≡ piece ++ rest') (long : length piece ≡ min 8 (length rest)) (some : 0 < length rest) where
  room : length rest ≡ length input - 8 * k
  room = ap length left.rest_is ∙ length-drop (8 * k) input

  after : rest' ≡ drop 8 rest
  after = sym (drop_at piece rest' (min 8 (length rest)) long) ∙ (ap (drop (min 8 (length rest))) (sym cut) ∙ drop_min 8 rest)

  pub left_more : Left input (k + 1) rest'
  left_more = record {
    rest_is = after ∙ (ap (drop 8) left.rest_is ∙ (drop-drop 8 (8 * k) input ∙ ap (λ n. drop n input) (omega arith)));
    within = omega (arith, room, some);
  }

  -- a byte of the piece, or past its end
  byte_is : (j : ℕ) → j < 8 → get_or piece j 255 ≡ get_or input (8 * k + j) 255
  byte_is j below =
      let there : get_or rest j 255 ≡ get_or input (8 * k + j) 255 = ap (λ (xs : List ℕ). get_or xs j 255) left.rest_is ∙ get_or-drop (8 * k) input j 255 in
      elim (cases_lt j (length piece)) [
        | inl inside ↦ sym (get_or_append_left piece rest' 255 j inside) ∙ (ap (λ (xs : List ℕ). get_or xs j 255) (sym cut) ∙ there)
        | inr past ↦
            let beyond : length rest ≤ j = omega arith in
            get_or_past piece j 255 past ∙ (sym (get_or_past rest j 255 beyond) ∙ there)
      ]

  pub piece_is : filled_up piece ≡ step_bytes input k
  unfolding step_bytes
  piece_is =
      fill_by_all (λ j. get_or input (8 * k + j) 255) (filled_up piece) 8 0 refl (λ j below. get_or-map-range_with_len (λ i. get_or piece i 255) 0 8 j j 0 below (omega arith) ∙ byte_is j below)

-- what is left of the pieces of an input, as the iterator has it
pub record Cut (input : List ℕ) (it : Enumerate (Chunks ℕ)) : Type 0 where
  pub size : chunks_size (enumerate_source it) ≡ 8
  pub left : Left input (enumerate_count it) (chunks_rest (enumerate_source it))

pub cut_first : (input : List ℕ) (it : Enumerate (Chunks ℕ)) → chunks_rest (enumerate_source it) ≡ input → chunks_size (enumerate_source it) ≡ 8 → enumerate_count it ≡ 0 → Cut input it
cut_first input it all size none = record { size = size; left = rw none (left_all input _ all) }

-- the piece that came next is the step of its number, from 0
pub record Came (input : List ℕ) (k : ℕ) (piece : List ℕ) (it it' : Enumerate (Chunks ℕ)) : Type 0 where
  pub number : enumerate_count it ≡ k
  pub bytes : filled_up piece ≡ step_bytes input k
  pub next : enumerate_count it' ≡ k + 1
  pub cut : Cut input it'

pub cut_more : (input : List ℕ) (k : ℕ) (piece : Bor (List ℕ)) (it it' : Enumerate (Chunks ℕ)) → Cut input it → enumerate_steps (chunks_steps {A = ℕ}) it (Some (k, piece)) it' → Came input k piece.now it it'
cut_more input k piece it it' cut e =
    let rest = chunks_rest (enumerate_source it) in
    let long : length piece.now ≡ min 8 (length rest) = rw (← cut.size) e.0.1.1 in
    let next : enumerate_count it' ≡ k + 1 = e.2 ∙ ap (λ (n : ℕ). n + 1) (sym e.1) in
    record {
      number = sym e.1;
      bytes = rw e.1 (piece_is input (enumerate_count it) rest piece.now _ cut.left e.0.1.0 long e.0.1.2);
      next = next;
      cut = record {
        size = e.0.0 ∙ cut.size;
        left = rw e.2 (left_more input (enumerate_count it) rest piece.now _ cut.left e.0.1.0 long e.0.1.2);
      };
    }

pub cut_none : (input : List ℕ) (it it' : Enumerate (Chunks ℕ)) → Cut input it → enumerate_steps (chunks_steps {A = ℕ}) it None it' → enumerate_count it ≡ steps_in input
cut_none input it it' cut e = left_none input (enumerate_count it) _ cut.left e.0.1.0
