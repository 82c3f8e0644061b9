-- What a line says, and its text. Assumes nothing.
use Rattle.std.specs.Prelude.{ℕ, List, ◌++◌, Some, None, codes, decimal, Option}
use Rattle.settings.specs.Kinds.{status_number}
use Rattle.moves.specs.declared.state.State.{State}
use Rattle.script.specs.Answers.{Reply, shown_number}
use Rattle.script.specs.declared.line.Line.{Line}

-- the step from 1, the cabin that it names, that cabin's state if it is open, and the reply
pub record Said : Type 0 where
  pub step : ℕ
  pub cabin : ℕ
  pub state : Option State
  pub reply : Reply

-- by what the rules see of an answer
abbrev pub line_said : {A : Type 0} → (A → Reply) → Line A → Said
line_said reply l = record { step = l.step; cabin = l.cabin; state = l.state; reply = reply l.answer }

-- the decision, or "-" where there is none
abbrev pub decision_text : Option ℕ → List ℕ
decision_text None = codes "-"
decision_text (Some v) = decimal v

-- phase, value, status and decision of an open cabin
abbrev pub standing_text : Option State → List ℕ
standing_text None = codes "0 0 0 -"
standing_text (Some s) =
    decimal s.phase ++ (codes " " ++ (decimal s.value ++ (codes " " ++ (decimal (status_number s.status) ++ (codes " " ++ decision_text s.decision)))))

-- the whole line, without its end
abbrev pub said_text : Said → List ℕ
said_text l =
    decimal l.step ++ (codes " " ++ (decimal l.cabin ++ (codes " " ++ (standing_text l.state ++ (codes " " ++ decimal (shown_number l.reply))))))
