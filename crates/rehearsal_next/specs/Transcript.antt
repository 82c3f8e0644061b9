-- The text that a whole input prints. Assumes nothing.
use Rattle.std.specs.Prelude.{◌≡◌, ℕ, zero, suc, ◌<◌, List, [], ◌∷◌, ◌++◌}
use Rattle.script.specs.Lines.{said_text}
use Rattle.script.specs.Steps.{actor, step_bytes, steps_in}
use Rattle.rehearsal_next.specs.Seats.{SeatView}
use Rattle.rehearsal_next.specs.Stage.{MayWrite, first_stage, stage_after, step_said}
use Rattle.rehearsal_next.specs.Steps.{step_of}

-- the packets that the steps write, by the number of the step from 0; only those of accepted announces matter
abbrev pub Packets : Type 0
Packets = ℕ → List ℕ

-- the seats after step k, by its bytes
abbrev pub stage_next : List ℕ → List ℕ → List SeatView → List SeatView
stage_next bs p stage = stage_after (step_of bs) (actor bs) p stage

-- the seats after the first k steps
unfoldable pub stage_at : Packets → List ℕ → ℕ → List SeatView
stage_at packets input zero = first_stage
stage_at packets input (suc k) = stage_next (step_bytes input k) (packets k) (stage_at packets input k)

-- the lines of the first k steps, each with its end
unfoldable pub lines_to : Packets → List ℕ → ℕ → List ℕ
lines_to packets input zero = []
lines_to packets input (suc k) =
    lines_to packets input k ++ (said_text (step_said (suc k) (step_bytes input k) (packets k) (stage_at packets input k)) ++ 10 ∷ [])

-- what the whole input prints
abbrev pub transcript_of : Packets → List ℕ → List ℕ
transcript_of packets input = lines_to packets input (steps_in input)

-- the packet of step k is one that the step may write
abbrev pub LawfulAt : Packets → List ℕ → ℕ → Type 0
LawfulAt packets input k =
    MayWrite (step_of (step_bytes input k)) (actor (step_bytes input k)) (stage_at packets input k) (packets k)

abbrev pub LawfulTo : Packets → List ℕ → ℕ → Type 0
LawfulTo packets input n = (k : ℕ) → k < n → LawfulAt packets input k

-- The text is what the input prints with some lawful packets.
pub record Transcript (input text : List ℕ) : Type 0 where
  pub packets : Packets
  pub lawful : LawfulTo packets input (steps_in input)
  pub lines : text ≡ transcript_of packets input
