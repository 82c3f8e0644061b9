-- A step that is refused leaves the seat of the cabin that acts as it was.
use Rattle.std.proofs.Common.{◌≡◌, ℕ, List, Some, None, Ok, Err, Option, Result, refl, arith}
use Rattle.moves.specs.Hearing.{Told, hear_answer}
use Rattle.moves.specs.declared.state.State.{State}
use Rattle.script.proofs.Laws.{Refusing, opens_same}
use Rattle.rehearsal_next.specs.Seats.{SeatView, announce_reply, announces_as, hears_as, if_open, seat_hears_latest}
use Rattle.rehearsal_next.specs.Stage.{seat_at, turn}
use Rattle.rehearsal_next.specs.Words.{claimed, word_check}
use Rattle.rehearsal_next.specs.declared.step.Step.{Step}
use Rattle.rehearsal_next.specs.declared.step.Step.TheVariants.{Open, Announce, Hear, HearRecord}

accepted : {T : Type 0} (x : Option ℕ) (k : ℕ) → Ok x ≡ Err k → T
accepted x k e = absurd (grind arith)

announces_as_same : (answer : Result (Unit {0}) ℕ) (p : List ℕ) (c : State) (seat : SeatView) → Refusing (announces_as answer p c seat) seat
announces_as_same (Ok x) p c seat k e = accepted None k e
announces_as_same (Err x) p c seat k e = refl

announces_same : (o : Option State) (i : ℕ) (p : List ℕ) (seat : SeatView) → Refusing (if_open o (λ c. announces_as (announce_reply i c seat.table) p c seat) seat) seat
announces_same None i p seat k e = refl
announces_same (Some c) i p seat k e = announces_as_same (announce_reply i c seat.table) p c seat k e

hears_as_same : (answer : Result Told ℕ) (p : List ℕ) (c : State) (seat : SeatView) → seat.state ≡ Some c → Refusing (hears_as c p seat answer) seat
hears_as_same (Ok x) p c seat held k e = accepted _ k e
hears_as_same (Err x) p c seat held k e = rw (← held) refl

hears_same : (o : Option State) (p : List ℕ) (seat : SeatView) → seat.state ≡ o → Refusing (if_open o (λ c. hears_as c p seat (hear_answer word_check c seat.table p seat.bits)) seat) seat
hears_same None p seat held k e = refl
hears_same (Some c) p seat held k e =
    hears_as_same (hear_answer word_check c seat.table p seat.bits) p c seat held k e

latest_same : (o : Option (List ℕ)) (seat : SeatView) → Refusing (seat_hears_latest o seat) seat
latest_same None seat k e = refl
latest_same (Some p) seat k e = hears_same seat.state p seat refl k e

pub turn_same : (step : Option Step) (i : ℕ) (p : List ℕ) (stage : List SeatView) → Refusing (turn step i p stage) (seat_at stage i)
turn_same None i p stage k e = refl
turn_same (Some (Open v)) i p stage k e = opens_same (seat_at stage i).state _ _ (seat_at stage i) k e
turn_same (Some Announce) i p stage k e = announces_same (seat_at stage i).state i p (seat_at stage i) k e
turn_same (Some (Hear j)) i p stage k e = latest_same (seat_at stage j).packet (seat_at stage i) k e
turn_same (Some (HearRecord x)) i p stage k e = hears_same (seat_at stage i).state (claimed x) (seat_at stage i) refl k e
