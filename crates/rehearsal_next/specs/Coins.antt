-- The coins of a rehearsal. Assumes nothing.
use Rattle.std.specs.Prelude.{ℕ, ◌+◌, List}
use Rattle.coins.specs.Register.{register_bits}

-- the coin of cabin i: all the bits of a register that begins with i + 1
abbrev pub coin_bits : ℕ → List ℕ
coin_bits i = register_bits (i + 1) 65535
