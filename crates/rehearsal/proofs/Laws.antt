-- What every step keeps: a refused one changes nothing, and none changes another seat.
use Rattle.std.proofs.Common.{◌≡◌, ℕ, List, Option, refl, inl, inr}
use Rattle.std.proofs.lemmas.Bool.{cases_Bool}
use Rattle.script.specs.Answers.{Reply}
use Rattle.script.specs.Stage.{Keeps}
use Rattle.script.specs.Steps.{actor, byte, opens}
use Rattle.script.proofs.Laws.{keeps_from, opens_same}
use Rattle.rehearsal.specs.Seats.{SeatView, closed_seat, seat_opens}
use Rattle.rehearsal.specs.Stage.{seat_at, stage_after, stage_reply}
use Rattle.rehearsal.specs.Steps.{step_of}
use Rattle.rehearsal.specs.declared.step.Step.{Step}

steps_keep : (bs : List ℕ) (stage : List SeatView) → Keeps closed_seat (actor bs) (stage_reply (step_of bs) stage) stage (stage_after (step_of bs) stage)
steps_keep bs stage =
    elim (cases_Bool (opens bs)) [
      | inl e ↦
          let seat = seat_at stage (actor bs) in
          rw e (keeps_from closed_seat (actor bs) (seat_opens (actor bs) (byte bs 4) seat) _ stage _ (opens_same seat.state _ _ seat) (record { replied = refl; left = refl }))
      | inr e ↦ rw e (record { refused = λ k refused. refl; others = λ j other. refl })
    ]

pub keeps_by : (bs : List ℕ) (step : Option Step) (reply : Reply) (stage stage' : List SeatView) → step ≡ step_of bs → reply ≡ stage_reply step stage → stage' ≡ stage_after step stage → Keeps closed_seat (actor bs) reply stage stage'
keeps_by bs step reply stage stage' read answer after = rw (answer, after, read) (steps_keep bs stage)
