use Rattle.std.proofs.Common.{◌≡◌, ℕ, Bool, ◌≤◌}
use Rattle.agreement.specs.Counting.{count}
use Rattle.table.proofs.counts.cabins.Given as goal

-- the cabins below this one are counted
abbrev pub invariant-loop-cabin : goal.invariant-loop-cabin
invariant-loop-cabin g l =
    goal.F-IsAlwaysCallable g l.holds
    × (l.counted ≤ l.cabin)
    × ((A : ℕ → Bool) → ((j : ℕ) (b : Bool) → goal.F-post g l.holds j b → b ≡ A j) → l.counted ≡ count A l.cabin)
