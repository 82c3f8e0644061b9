-- Catching up with a record that was kept: a cabin stands soundly in the record's phase, with its value or with a toss.
use Rattle.std.proofs.Common.{◌≡◌, ℕ, ◌-◌, ◌%◌, ◌<◌, Bool, true, false, cond, not, sym, subst, inl, inr, arith}
use Rattle.std.proofs.lemmas.Bool.{both_ways, cases_eq, cond_both, le-leb, not-true}
use Rattle.settings.specs.Kinds.{kind_of}
use Rattle.settings.specs.declared.kind.PhaseKind.{PhaseKind}
use Rattle.agreement.specs.Rules.{Hall, QuorumFor, QuorumIn, Table, has_quorum, is_valid}
use Rattle.agreement.specs.Books.{Filled, Once}
use Rattle.agreement.specs.History.{DecideQuorum}
use Rattle.agreement.specs.Status.{OpenAfter, last_decide, status_rule}
use Rattle.agreement.specs.TwoWay.{two_way}
use Rattle.agreement.proofs.Growing.{decide_quorum_more}
use Rattle.agreement.proofs.Leaving.{converge_valid}
use Rattle.agreement.proofs.Rules.{kind_converge, kind_decide, kind_lock, valid_phase}
use Rattle.agreement.proofs.Status.{decide_quorum_locked, status_decided, status_undecided}
use Rattle.agreement.proofs.Tables.{converge_once, tally_turnout}
use Rattle.packets.specs.declared.record.Fields.{Fields}
use Rattle.table.specs.Rules.{hall_of, is_decided}
use Rattle.moves.specs.Moving.{catch_tosses}
use Rattle.moves.specs.declared.state.State.{State}
use Rattle.runs.proofs.Sound.{Backed}
use Rattle.runs.proofs.Settling.{Poised}

-- A record for phase φ with value v met the status rule once.
module _ (hall : Hall) (ever : Table) (φ v : ℕ) (decided : Bool) (status : Once ever (λ t. status_rule hall t φ v decided)) where
  -- a decided record rests on a quorum in the last DECIDE phase
  decided_backed : decided ≡ true → (3 < φ) × DecideQuorum hall ever (last_decide φ) v
  decided_backed e =
      let met = status_decided hall status.0 φ v (subst (λ (b : Bool). status_rule hall status.0 φ v b ≡ true) e status.2) in
      (met.0, decide_quorum_more hall status.0 ever (last_decide φ) v status.1 met.1)

  -- an undecided one was supported in its phase
  undecided_open : decided ≡ false → 3 < φ → OpenAfter hall ever (last_decide φ)
  undecided_open e far =
      let met : status_rule hall status.0 φ v false ≡ true = subst (λ (b : Bool). status_rule hall status.0 φ v b ≡ true) e status.2 in
      (φ, omega arith, omega arith, (status.0, status.1, status_undecided hall status.0 φ v far met))

  module _ (valid : Once ever (λ t. is_valid hall t φ v)) where
    -- with the record's value
    pub caught : Poised hall ever φ v decided
    caught = record {
      begun = valid_phase hall valid.0 φ v valid.2;
      valid = valid;
      backed = λ e. let met = decided_backed e in (last_decide φ, omega (arith, met.0), met.1);
      undecided = λ e far. inr (undecided_open e far);
    }

    -- With a toss in CONVERGE, where the value has no quorum in the LOCK phase before: no preference has one in the DECIDE
    -- phase before, so any course is valid; and the record is undecided, as a decided one has that quorum in LOCK.
    pub caught_tossed : (w : ℕ) → Filled hall ever → φ % 3 ≡ 1 → 1 < φ → (QuorumFor hall ever (φ - 2) v → ⊥) → w < hall.book.courses → Poised hall ever φ w decided
    caught_tossed w filled converge later unlocked course =
        let m : ℕ = hall.book.courses in
        let none : QuorumFor hall ever (φ - 1) m = elim (converge_once hall ever φ (φ - 2) (φ - 1) v (omega arith) (omega arith) converge valid) [ inl locked ↦ absurd (unlocked locked) | inr none ↦ none ] in
        let enough : QuorumIn hall ever (φ - 1) = omega (arith, tally_turnout hall ever (φ - 1) m (omega arith)) in
        let tossed = converge_valid hall ever (φ - 1) w (omega arith) course enough (inr none) in
        record {
          begun = omega arith;
          valid = (ever, λ _ _ _ e. e, subst (λ (ψ : ℕ). is_valid hall ever ψ w ≡ true) (omega arith) tossed);
          backed = λ e.
              let locked = decide_quorum_locked hall ever (last_decide φ) v filled (decided_backed e).1 in
              absurd (unlocked (subst (λ (ψ : ℕ). QuorumFor hall ever ψ v) (omega arith) locked));
          undecided = λ e far. inr (undecided_open e far);
        }

-- by the move's definition, whatever the kind of the record's phase
pub caught_poised : (c : State) (ever : Table) (f : Fields) (bit : ℕ) → Filled (hall_of c.settings) ever → Backed c.settings ever f → 1 < f.phase → bit < 2 → Poised (hall_of c.settings) ever f.phase (cond (catch_tosses (kind_of f.phase) c ever f) bit f.value) (is_decided f.status)
unfolding two_way
caught_poised c ever f bit filled backed later small =
    elim (cases_eq (f.phase % 3) 1) [
      | inl converge ↦ subst Caught (sym (kind_converge f.phase converge)) (cond_both (not locked) bit f.value Standing (tossed converge) (λ _. plain))
      | inr not_converge ↦ elim (cases_eq (f.phase % 3) 2) [
        | inl lock ↦ subst Caught (sym (kind_lock f.phase lock)) plain
        | inr not_lock ↦ subst Caught (sym (kind_decide f.phase (omega arith))) plain
      ]
    ]
  where
    hall : Hall
    hall = hall_of c.settings

    Standing : ℕ → Type 0
    Standing v = Poised hall ever f.phase v (is_decided f.status)

    Caught : PhaseKind → Type 0
    Caught k = Standing (cond (catch_tosses k c ever f) bit f.value)

    plain : Standing f.value
    plain = caught hall ever f.phase f.value (is_decided f.status) backed.status backed.valid

    locked : Bool
    locked = has_quorum hall ever (f.phase - 2) f.value

    tossed : f.phase % 3 ≡ 1 → not locked ≡ true → Standing bit
    tossed converge none =
        let unlocked : QuorumFor hall ever (f.phase - 2) f.value → ⊥ = λ many. both_ways locked (not-true locked none) (le-leb _ _ many) in
        caught_tossed hall ever f.phase f.value (is_decided f.status) backed.status backed.valid bit filled converge later unlocked small
