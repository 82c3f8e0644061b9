-- What a step of eight bytes asks for. Assumes nothing.
use Rattle.std.specs.Prelude.{ℕ, cond, List, Some, None, Option}
use Rattle.script.specs.Steps.{actor, byte, opens}
use Rattle.rehearsal.specs.declared.step.Step.{Step}
use Rattle.rehearsal.specs.declared.step.Step.TheVariants.{Open}

-- the step that eight bytes say, or none
abbrev pub step_of : List ℕ → Option Step
step_of bs = cond (opens bs) (Some (Open (actor bs) (byte bs 4))) None
