-- The text that a whole input prints. Assumes nothing.
use Rattle.std.specs.Prelude.{ℕ, zero, suc, List, [], ◌∷◌, ◌++◌}
use Rattle.script.specs.Lines.{said_text}
use Rattle.script.specs.Steps.{step_bytes, steps_in}
use Rattle.rehearsal.specs.Seats.{SeatView}
use Rattle.rehearsal.specs.Stage.{first_stage, stage_after, step_said}
use Rattle.rehearsal.specs.Steps.{step_of}

-- the seats after the first k steps
unfoldable pub stage_at : List ℕ → ℕ → List SeatView
stage_at input zero = first_stage
stage_at input (suc k) = stage_after (step_of (step_bytes input k)) (stage_at input k)

-- the lines of the first k steps, each with its end
unfoldable pub lines_to : List ℕ → ℕ → List ℕ
lines_to input zero = []
lines_to input (suc k) = lines_to input k ++ (said_text (step_said (suc k) (step_bytes input k) (stage_at input k)) ++ 10 ∷ [])

-- what the whole input prints
abbrev pub transcript_of : List ℕ → List ℕ
transcript_of input = lines_to input (steps_in input)
