-- The code's table is the list that the rule for H(0) computes.
use Rattle.std.proofs.Common.{refl}
use Rattle.words.specs.Constants.{H⁰}
use Rattle.words.proofs.hashing.constants.initial.Goals as goal

pub returns : goal.returns
unfolding H⁰
returns c = refl
