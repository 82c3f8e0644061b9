-- One more round.
-- Assumes nothing.
use Rattle.std.proofs.Common.{◌≡◌, ℕ, ◌+◌, List, get_or, refl, ap, add-one}
use Rattle.words.specs.Constants.{K}
use Rattle.words.specs.Computation.{round, rounds}

pub rounds_none : (W H : List ℕ) → rounds W H 0 ≡ H
unfolding rounds
rounds_none W H = refl

pub rounds_more : (W H : List ℕ) (t : ℕ) → rounds W H (t + 1) ≡ round (rounds W H t) (K t) (get_or W t 0)
unfolding rounds
rounds_more W H t = ap (rounds W H) (add-one t)
