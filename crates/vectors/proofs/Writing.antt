-- One byte more in hex.
-- Assumes nothing.
use Rattle.std.proofs.Common.{◌≡◌, ℕ, ◌+◌, ◌/◌, ◌%◌, ◌<◌, List, [], ◌∷◌, ◌++◌, length, get_or, take, sym, ap, ◌∙◌}
use Rattle.std.proofs.lemmas.List.{flat_map_more, take_more}
use Rattle.vectors.specs.Hex.{hex_byte, hex_digit, hex_text}

-- the digits of the bytes below i + 1: those of the bytes below i, and the two of byte i
pub hex_more : (bytes : List ℕ) (i : ℕ) → i < length bytes
    → hex_text (take (i + 1) bytes) ≡ hex_text (take i bytes) ++ (hex_digit (get_or bytes i 0 / 16) ∷ hex_digit (get_or bytes i 0 % 16) ∷ [])
hex_more bytes i within =
    ap hex_text (take_more bytes i 0 within) ∙ sym (flat_map_more hex_byte [] (take i bytes) (get_or bytes i 0))
