-- Every run of a fair session keeps the laws.
use Rattle.std.proofs.Common.{refl}
use Rattle.runs.proofs.Running.{hall_agrees}
use Rattle.runs.proofs.lag.Goals as goal

pub returns : goal.returns
returns c = record { value = refl; agrees = hall_agrees }
