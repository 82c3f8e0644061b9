-- The digits of the bytes so far are written.
use Rattle.std.proofs.Common.{◌≡◌, take, string_bytes}
use Rattle.vectors.specs.Hex.{hex_text}
use Rattle.vectors.proofs.digits.hex.Given as goal

abbrev pub invariant-loop-byte : goal.invariant-loop-byte
invariant-loop-byte l = string_bytes l.text ≡ hex_text (take l.byte-index l.bytes)
