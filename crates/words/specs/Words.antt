-- The word that stands where a sealer seals nothing. Assumes nothing.
use Rattle.std.specs.Prelude.{ℕ, List, replicate}

-- 32 zeros
abbrev pub zero_word : List ℕ
zero_word = replicate 32 0
