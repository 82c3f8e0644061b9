use Rattle.std.proofs.Common.{◌≡◌, take}
use Rattle.words.proofs.compare.same.Given as goal

-- the bytes so far are the same
abbrev pub invariant-loop-i : goal.invariant-loop-i
invariant-loop-i l = take l.i l.bytes ≡ take l.i l.other
