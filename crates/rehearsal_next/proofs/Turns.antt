-- One step, and one step more of a transcript.
use Rattle.std.proofs.Common.{◌≡◌, ℕ, zero, suc, ◌+◌, ◌<◌, cond, eqb, List, [], ◌∷◌, ◌++◌, Option, sym, refl, ◌∙◌, subst, inl, inr, add-one, arith}
use Rattle.std.proofs.lemmas.Bool.{cases_eq, eq-eqb, ne_eqb}
use Rattle.moves.specs.declared.state.State.{State}
use Rattle.script.specs.Answers.{Reply}
use Rattle.script.specs.Lines.{Said, said_text}
use Rattle.script.specs.Stage.{Keeps, Turned}
use Rattle.script.specs.Steps.{actor, step_bytes, steps_in}
use Rattle.script.proofs.Laws.{keeps_from}
use Rattle.rehearsal_next.specs.Seats.{SeatView, closed_seat}
use Rattle.rehearsal_next.specs.Stage.{MayWrite, first_stage, seat_at, step_said, turn}
use Rattle.rehearsal_next.specs.Steps.{step_of}
use Rattle.rehearsal_next.specs.Transcript.{LawfulAt, LawfulTo, Packets, Transcript, lines_to, stage_at, stage_next}
use Rattle.rehearsal_next.specs.declared.step.Step.{Step}
use Rattle.rehearsal_next.proofs.Refusing.{turn_same}

-- a step of the bytes bs, which wrote p, said this line and led from the seats before to the seats after
pub record Stepped (k : ℕ) (bs p : List ℕ) (line : Said) (before after : List SeatView) : Type 0 where
  pub line_is : line ≡ step_said k bs p before
  pub after_is : after ≡ stage_next bs p before
  pub lawful : MayWrite (step_of bs) (actor bs) before p
  pub keeps : Keeps (closed_seat []) (actor bs) line.reply before after

pub stepped : (k : ℕ) (bs p : List ℕ) (step : Option Step) (reply : Reply) (state : Option State) (before after : List SeatView) → step ≡ step_of bs → Turned (actor bs) (turn step (actor bs) p before) reply before after → MayWrite step (actor bs) before p → state ≡ (seat_at after (actor bs)).state → Stepped k bs p (record { step = k; cabin = actor bs; state = state; reply = reply }) before after
stepped k bs p step reply state before after read turned lawful shown =
    let left : after ≡ stage_next bs p before = rw (← read) turned.left in
    record {
      line_is = rw (shown, left, turned.replied, read) refl;
      after_is = left;
      lawful = rw (← read) lawful;
      keeps = keeps_from (closed_seat []) (actor bs) (turn step (actor bs) p before) reply before after (turn_same step (actor bs) p before) turned;
    }

-- the packets, of which the one of step k is p
abbrev pub with_packet : Packets → ℕ → List ℕ → Packets
with_packet packets k p j = cond (eqb j k) p (packets j)

with_here : (packets : Packets) (k : ℕ) (p : List ℕ) → with_packet packets k p k ≡ p
with_here packets k p = rw (eq-eqb k k refl) refl

with_below : (packets : Packets) (k j : ℕ) (p : List ℕ) → j < k → packets j ≡ with_packet packets k p j
with_below packets k j p below = rw (ne_eqb j k (λ e. omega arith)) refl

-- the seats and the lines of the first k steps rest on the first k packets alone
stage_at_same : (packets others : Packets) (input : List ℕ) (k : ℕ) → ((j : ℕ) → j < k → packets j ≡ others j) → stage_at packets input k ≡ stage_at others input k
unfolding stage_at
stage_at_same packets others input zero same = refl
stage_at_same packets others input (suc k) same =
    rw (stage_at_same packets others input k (λ j below. same j (omega arith)), same k (omega arith)) refl

lines_to_same : (packets others : Packets) (input : List ℕ) (k : ℕ) → ((j : ℕ) → j < k → packets j ≡ others j) → lines_to packets input k ≡ lines_to others input k
unfolding lines_to
lines_to_same packets others input zero same = refl
lines_to_same packets others input (suc k) same =
    let stage = stage_at_same packets others input k (λ j below. same j (omega arith)) in
    let before = lines_to_same packets others input k (λ j below. same j (omega arith)) in
    rw (before, stage, same k (omega arith)) refl

stage_at_more : (packets : Packets) (input : List ℕ) (k : ℕ) → stage_at packets input (k + 1) ≡ stage_next (step_bytes input k) (packets k) (stage_at packets input k)
unfolding stage_at
stage_at_more packets input k = rw (add-one k)

lines_to_more : (packets : Packets) (input : List ℕ) (k : ℕ) → lines_to packets input (k + 1) ≡ lines_to packets input k ++ (said_text (step_said (k + 1) (step_bytes input k) (packets k) (stage_at packets input k)) ++ 10 ∷ [])
unfolding lines_to
lines_to_more packets input k = rw (add-one k)

-- the hall's seats and the text after k steps, with some lawful packets
pub record Played (input : List ℕ) (k : ℕ) (stage : List SeatView) (text : List ℕ) : Type 0 where
  pub packets : Packets
  pub lawful : LawfulTo packets input k
  pub hall : stage ≡ stage_at packets input k
  pub lines : text ≡ lines_to packets input k

pub played_none : (input : List ℕ) (stage : List SeatView) (text : List ℕ) → stage ≡ first_stage → text ≡ [] → Played input 0 stage text
unfolding stage_at lines_to
played_none input stage text hall lines = record {
  packets = λ k. [];
  lawful = λ k below. absurd (omega arith);
  hall = hall;
  lines = lines;
}

-- one step more, by what the step and the line's writing ensure
module _ (input : List ℕ) (k : ℕ) (stage stage' : List SeatView) (text text' bs p : List ℕ) (line : Said) (before : Played input k stage text) (bytes : bs ≡ step_bytes input k) (said : line ≡ step_said (k + 1) bs p stage) (after : stage' ≡ stage_next bs p stage) (may : MayWrite (step_of bs) (actor bs) stage p) (wrote : text' ≡ text ++ (said_text line ++ 10 ∷ [])) where
  abbrev next : Packets
  next = with_packet before.packets k p

  same : (j : ℕ) → j < k → before.packets j ≡ next j
  same j below = with_below before.packets k j p below

  stage_is : stage ≡ stage_at next input k
  stage_is = before.hall ∙ stage_at_same before.packets next input k same

  lines_are : text ≡ lines_to next input k
  lines_are = before.lines ∙ lines_to_same before.packets next input k same

  packet_here : p ≡ next k
  packet_here = sym (with_here before.packets k p)

  lawful_here : LawfulAt next input k
  lawful_here =
      let at_bytes = subst (λ (b : List ℕ). MayWrite (step_of b) (actor b) stage p) bytes may in
      let at_stage = subst (λ (s : List SeatView). MayWrite (step_of (step_bytes input k)) (actor (step_bytes input k)) s p) stage_is at_bytes in
      subst (λ (q : List ℕ). MayWrite (step_of (step_bytes input k)) (actor (step_bytes input k)) (stage_at next input k) q) packet_here at_stage

  lawful_below : (j : ℕ) → j < k → LawfulAt next input j
  lawful_below j below =
      let stages = stage_at_same before.packets next input j (λ i lower. same i (omega arith)) in
      let at_stage = subst (λ (s : List SeatView). MayWrite (step_of (step_bytes input j)) (actor (step_bytes input j)) s (before.packets j)) stages (before.lawful j below) in
      subst (λ (q : List ℕ). MayWrite (step_of (step_bytes input j)) (actor (step_bytes input j)) (stage_at next input j) q) (same j below) at_stage

  lawful_next : LawfulTo next input (k + 1)
  lawful_next j below =
      elim (cases_eq j k) [
        | inl here ↦ subst (λ (i : ℕ). LawfulAt next input i) (sym here) lawful_here
        | inr other ↦ lawful_below j (omega (arith, other))
      ]

  stage_more : stage' ≡ stage_at next input (k + 1)
  stage_more =
      let at_stage : stage_next bs p stage ≡ stage_next (step_bytes input k) (next k) (stage_at next input k) = rw (bytes, ← packet_here, ← stage_is) refl in
      after ∙ (at_stage ∙ sym (stage_at_more next input k))

  lines_more : text' ≡ lines_to next input (k + 1)
  lines_more =
      let at_line : line ≡ step_said (k + 1) (step_bytes input k) (next k) (stage_at next input k) = said ∙ rw (bytes, ← packet_here, ← stage_is) refl in
      wrote ∙ (rw (lines_are, at_line) (sym (lines_to_more next input k)))

  pub played_more : Played input (k + 1) stage' text'
  played_more = record { packets = next; lawful = lawful_next; hall = stage_more; lines = lines_more }

-- all the steps were played
pub played_all : (input : List ℕ) (k : ℕ) (stage : List SeatView) (text : List ℕ) → Played input k stage text → k ≡ steps_in input → Transcript input text
played_all input k stage text played all = record {
  packets = played.packets;
  lawful = rw all at played.lawful;
  lines = rw all at played.lines;
}
