-- examples_shown: each example computes.
use Rattle.std.proofs.Common.{rules}
use Rattle.examples.proofs.Shown.{examples}
use Rattle.examples.proofs.examples_shown.Goals as goal

pub returns : goal.returns
returns c = record { value = search rules; shown = examples }
