-- Catching up: after a unanimous CONVERGE phase nobody stays undecided.
use Rattle.std.proofs.Common.{◌≡◌, ℕ, ◌+◌, ◌-◌, ◌*◌, ◌/◌, ◌<◌, ◌≤◌, true, inl, inr, arith}
use Rattle.std.proofs.lemmas.Bool.{cases_Bool}
use Rattle.agreement.specs.Rules.{Hall, Table}
use Rattle.agreement.specs.Books.{Filled, FirstLaw, FirstLawUndecided, Once, Unanimous}
use Rattle.agreement.specs.History.{DecideQuorum, History, Honest, Laws}
use Rattle.agreement.specs.Agreement.{OneChoice}
use Rattle.agreement.specs.Status.{Split, StatusLaws, last_decide}
use Rattle.agreement.specs.CatchingUp.{HasDecided}
use Rattle.agreement.proofs.Tables.{Only, kept_only}
use Rattle.agreement.proofs.Unanimity.{unanimity_lasts, unanimous_later}
use Rattle.agreement.proofs.Agreement.{decide_quorums_agree, quorum_unanimous}
use Rattle.agreement.proofs.Validity.{one_choice_decides, one_choice_unanimous}

-- from the next cycle on undecided was never supported
pub undecided_never : (hall : Hall) (ever : Table) (ψ φ v : ℕ) → Filled hall ever → FirstLaw hall → FirstLawUndecided hall → Unanimous hall ever ψ v → ψ + 3 ≤ φ → Once ever (λ t. hall.book.undecided t φ) → ⊥
undecided_never hall ever ψ φ v filled first late u far once =
    let k : ℕ = (φ - ψ) / 3 - 1 in
    late.undecided ever (ψ + k * 3) v φ filled (unanimous_later hall ever filled first k ψ v u) (omega arith) (omega arith) once

-- where only one course was ever valid, a phase is not split
pub split_never : (hall : Hall) (ever : Table) (d v : ℕ) → Filled hall ever → v < hall.book.courses → Only hall ever d v → Split hall ever d → ⊥
split_never hall ever d v filled course only split =
    let s = split v course in
    s.3 (kept_only hall ever filled d s.0 v s.1 only s.2)

module _ (hall : Hall) (H : History) (first : FirstLaw hall) (late : FirstLawUndecided hall) (laws : Laws hall H) (status : StatusLaws hall H) where
  -- an honest cabin in a later cycle than a unanimous phase has decided
  pub unanimous_decided : (i ψ v : ℕ) → Honest H i → v < hall.book.courses → Unanimous hall (H.kept i) ψ v → ψ + 3 ≤ H.phase i → H.decided i ≡ true
  unanimous_decided i ψ v hi course u far =
      let ever : Table = H.kept i in
      let d : ℕ = last_decide (H.phase i) in
      let after : ψ < d = omega (arith, u.converge) in
      let only = unanimity_lasts hall ever (laws.filled i hi) first ψ d v u after in
      elim (cases_Bool (H.decided i)) [
        | inl decided ↦ decided
        | inr undecided ↦ elim (status.undecided i hi undecided (omega arith)) [
          | inl split ↦ absurd (split_never hall ever d v (laws.filled i hi) course only split)
          | inr s ↦ absurd (undecided_never hall ever ψ s.0 v (laws.filled i hi) first late u (omega (arith, u.converge, s.1)) s.3)
        ]
      ]

  -- under one choice, from phase 4 on
  pub one_choice_decided : (i v : ℕ) → OneChoice hall H v → Honest H i → 4 ≤ H.phase i → HasDecided H i v
  one_choice_decided i v choice hi far =
      let decided : H.decided i ≡ true = unanimous_decided i 1 v hi choice.course (one_choice_unanimous hall H i v laws choice hi) (omega arith) in
      let held = status.decided i hi decided in
      let same : held.0 ≡ v = one_choice_decides hall H first laws i v held.0 choice hi held.1 in
      record { status = decided; decision = cc }

  -- after a quorum in the DECIDE phase d, from phase d + 4 on
  pub caught_up : (i j d v : ℕ) → Honest H i → Honest H j → DecideQuorum hall (H.kept i) d v → d + 4 ≤ H.phase j → HasDecided H j v
  caught_up i j d v hi hj quorum far =
      let decided : H.decided j ≡ true = unanimous_decided j (d + 1) v hj quorum.course (quorum_unanimous hall H laws i j d v hi hj quorum) (omega arith) in
      let held = status.decided j hj decided in
      let rests = laws.rests j held.0 hj held.1 in
      let same : v ≡ held.0 = decide_quorums_agree hall H laws first i j d rests.0 v held.0 hi hj quorum rests.2 in
      record { status = decided; decision = cc }
