use Rattle.std.proofs.Common.{sym, arith}
use Rattle.agreement.proofs.Counting.{count_zero}
use Rattle.table.proofs.Counting.{counted_in, counted_out}
use Rattle.table.proofs.counts.cabins.Goals as goal
use Rattle.table.proofs.counts.cabins.Goals.{then-holds, else-holds}

pub loop-cabin-init : goal.loop-cabin-init
loop-cabin-init g c = (c.requires, omega arith, λ A means. sym (count_zero A))

pub loop-cabin-preserved : goal.loop-cabin-preserved
loop-cabin-preserved g c =
    elim c.if-holds.branch [
      | then-holds w ↦ (c.requires, omega (arith, w.counted-is, c.loop-cabin.invariant.1), λ A means. rw w.counted-is (counted_in A _ _ (c.loop-cabin.invariant.2 A means) (means _ _ w.if-holds.ensures)))
      | else-holds w ↦ (c.requires, omega (arith, w.counted-is, c.loop-cabin.invariant.1), λ A means. rw w.counted-is (counted_out A _ _ (c.loop-cabin.invariant.2 A means) (means _ _ w.if-holds.ensures)))
    ]
