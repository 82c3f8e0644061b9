-- The steps of an input, and the bytes of a step. Assumes nothing.
use Rattle.std.specs.Prelude.{ℕ, ◌+◌, ◌*◌, ◌/◌, ◌%◌, min, Bool, ◌&&◌, List, map, length, ◌==◌, slice_index, slice_index_or}
use Rattle.std.specs.List.{range_with_len}

-- how many steps an input has; a cut last one counts
abbrev pub steps_in : List ℕ → ℕ
steps_in input = length input / 8 + min 1 (length input % 8)

-- the eight bytes of step k from 0; past the end of the input each is 255
unfoldable pub step_bytes : List ℕ → ℕ → List ℕ
step_bytes input k = map (λ j. slice_index_or input (8 * k + j) 255) (range_with_len 0 8)

-- the first eight bytes of a piece; past its end each is 255
abbrev pub filled_up : List ℕ → List ℕ
filled_up piece = map (λ j. slice_index_or piece j 255) (range_with_len 0 8)

-- byte j of a step
abbrev pub byte : List ℕ → ℕ → ℕ
byte bs j = slice_index bs j

-- the cabin that acts
abbrev pub actor : List ℕ → ℕ
actor bs = byte bs 1

abbrev pub unused : List ℕ → ℕ → Bool
unused bs j = byte bs j == 0

abbrev pub kind : List ℕ → ℕ → Bool
kind bs k = byte bs 0 == k

-- kind 1: open; byte 4 is the choice
abbrev pub opens : List ℕ → Bool
opens bs = kind bs 1 && (unused bs 2 && (unused bs 3 && (unused bs 5 && (unused bs 6 && unused bs 7))))
