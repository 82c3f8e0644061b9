-- What every step keeps: a refused one changes nothing, and none changes another seat.
use Rattle.std.proofs.Common.{◌≡◌, ℕ, List, length, get_or, Some, None, Ok, Err, Option, Result, sym, refl, ◌∙◌, inl, inr, arith}
use Rattle.std.proofs.lemmas.List.{get_or-set_other, set-get_or, set_past}
use Rattle.std.proofs.lemmas.Bool.{cases_lt, lt-ltb}
use Rattle.moves.specs.declared.state.State.{State}
use Rattle.script.specs.Answers.{Reply}
use Rattle.script.specs.Stage.{Keeps, Turn, Turned, opens_from}

-- a turn that refuses leaves the seat as it was
abbrev pub Refusing : {V : Type 0} → Turn V → V → Type 0
Refusing t seat = (k : ℕ) → t.reply ≡ Err k → t.seat ≡ seat

refused_same : {V : Type 0} (closed : V) (i : ℕ) (t : Turn V) (reply : Reply) (before after : List V) → Refusing t (get_or before i closed) → Turned i t reply before after → (k : ℕ) → reply ≡ Err k → after ≡ before
refused_same closed i t reply before after refusing turned k refused =
    elim (cases_lt i (length before)) [
      | inl within ↦
          let seat : t.seat ≡ get_or before i closed = refusing k (sym (rw (lt-ltb i (length before) within) at turned.replied) ∙ refused) in
          turned.left ∙ rw seat (set-get_or before i closed)
      | inr past ↦ turned.left ∙ set_past before i _ past
    ]

-- by what the step's turn led to
pub keeps_from : {V : Type 0} (closed : V) (i : ℕ) (t : Turn V) (reply : Reply) (before after : List V) → Refusing t (get_or before i closed) → Turned i t reply before after → Keeps closed i reply before after
keeps_from closed i t reply before after refusing turned = record {
  refused = refused_same closed i t reply before after refusing turned;
  others = λ j other. rw turned.left (get_or-set_other before i j _ _ other);
}

pub opens_same : {V : Type 0} (o : Option State) (answer : Result State ℕ) (left : State → V) (seat : V) → Refusing (opens_from o answer left seat) seat
opens_same None (Ok c) left seat k e = absurd (grind arith)
opens_same None (Err x) left seat k e = refl
opens_same (Some c) answer left seat k e = refl
