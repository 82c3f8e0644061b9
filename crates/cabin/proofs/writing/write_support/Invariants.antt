use Rattle.std.proofs.Common.{◌≤◌, length, get_or}
use Rattle.support.specs.View.{support_places}
use Rattle.moves.specs.Announcing.{copied}
use Rattle.cabin.specs.Packets.{Written}
use Rattle.cabin.proofs.writing.write_support.Given as goal

abbrev pub invariant-loop-index : goal.invariant-loop-index
invariant-loop-index l =
    (l.index ≤ length (support_places l.initial.support)) × Written (λ j. copied l.initial.state l.initial.table (get_or (support_places l.initial.support) j 0)) l.index l.initial.buffer l.buffer
