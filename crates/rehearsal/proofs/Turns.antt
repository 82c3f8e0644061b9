-- One step more of a transcript.
use Rattle.std.proofs.Common.{◌≡◌, ℕ, ◌+◌, List, [], ◌∷◌, ◌++◌, sym, ◌∙◌, add-one}
use Rattle.script.specs.Lines.{Said, said_text}
use Rattle.script.specs.Steps.{step_bytes, steps_in}
use Rattle.rehearsal.specs.Seats.{SeatView}
use Rattle.rehearsal.specs.Stage.{first_stage, stage_after, step_said}
use Rattle.rehearsal.specs.Steps.{step_of}
use Rattle.rehearsal.specs.Transcript.{lines_to, stage_at, transcript_of}

stage_at_more : (input : List ℕ) (k : ℕ) → stage_at input (k + 1) ≡ stage_after (step_of (step_bytes input k)) (stage_at input k)
unfolding stage_at
stage_at_more input k = rw (add-one k)

lines_to_more : (input : List ℕ) (k : ℕ) → lines_to input (k + 1) ≡ lines_to input k ++ (said_text (step_said (k + 1) (step_bytes input k) (stage_at input k)) ++ 10 ∷ [])
unfolding lines_to
lines_to_more input k = rw (add-one k)

-- the hall's stage and the text after one step more, by what the step and the line's writing ensure
pub record Played (input : List ℕ) (k : ℕ) (stage : List SeatView) (text : List ℕ) : Type 0 where
  pub hall : stage ≡ stage_at input k
  pub lines : text ≡ lines_to input k

pub played_none : (input : List ℕ) (stage : List SeatView) (text : List ℕ) → stage ≡ first_stage → text ≡ [] → Played input 0 stage text
unfolding stage_at lines_to
played_none input stage text hall lines = record { hall = hall; lines = lines }

pub played_more : (input : List ℕ) (k : ℕ) (stage stage' : List SeatView) (text text' bs : List ℕ) (line : Said) → Played input k stage text → bs ≡ step_bytes input k → line ≡ step_said (k + 1) bs stage → stage' ≡ stage_after (step_of bs) stage → text' ≡ text ++ (said_text line ++ 10 ∷ []) → Played input (k + 1) stage' text'
played_more input k stage stage' text text' bs line before bytes said after wrote = record {
  hall = after ∙ (rw (bytes, before.hall) (sym (stage_at_more input k)));
  lines = wrote ∙ (rw (before.lines, said, bytes, before.hall) (sym (lines_to_more input k)));
}

-- all the steps were played
pub played_all : (input : List ℕ) (k : ℕ) (stage : List SeatView) (text : List ℕ) → Played input k stage text → k ≡ steps_in input → text ≡ transcript_of input
played_all input k stage text played all = rw all at played.lines
