-- Counting the numbers of a set. Assumes nothing.
use Rattle.std.specs.Prelude.{ℕ, zero, suc, ◌+◌, Bool, false, cond, ◌||◌}

-- how many numbers below n are in the set
unfoldable pub count : (ℕ → Bool) → ℕ → ℕ
count A zero = 0
count A (suc n) = cond (A n) 1 0 + count A n

-- whether some number below n is in the set
unfoldable pub some : (ℕ → Bool) → ℕ → Bool
some A zero = false
some A (suc n) = A n || some A n
