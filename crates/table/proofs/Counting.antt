-- Counting the numbers of a set one by one.
use Rattle.std.proofs.Common.{◌≡◌, ℕ, ◌+◌, Bool, true, false, sym, add-one, arith}
use Rattle.agreement.specs.Counting.{count}
use Rattle.agreement.proofs.Counting.{count_in, count_out}

-- one more number, in the set
pub counted_in : (A : ℕ → Bool) (j k : ℕ) → k ≡ count A j → true ≡ A j → k + 1 ≡ count A (j + 1)
counted_in A j k so_far holds = rw (add-one j) (omega (arith, count_in A j (sym holds)))

-- one more number, not in the set
pub counted_out : (A : ℕ → Bool) (j k : ℕ) → k ≡ count A j → false ≡ A j → k ≡ count A (j + 1)
counted_out A j k so_far fails = rw (add-one j) (omega (arith, count_out A j (sym fails)))
