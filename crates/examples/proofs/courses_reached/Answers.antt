-- courses_reached: a run for each course.
use Rattle.std.proofs.Common.{rules}
use Rattle.examples.proofs.Witness.{witness}
use Rattle.examples.proofs.courses_reached.Goals as goal

pub returns : goal.returns
returns c = record { value = search rules; reached = witness }
