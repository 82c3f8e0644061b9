-- Validity: under one choice phase 1 is unanimous, so every decision is that choice.
use Rattle.std.proofs.Common.{ℕ, ◌<◌, not, inl, inr, arith}
use Rattle.std.proofs.lemmas.Bool.{cases_Bool, not_from_false}
use Rattle.agreement.specs.Rules.{Hall}
use Rattle.agreement.specs.Books.{Unanimous}
use Rattle.agreement.specs.History.{History, Honest, Laws}
use Rattle.agreement.specs.Agreement.{OneChoice, OneChoiceDecides}
use Rattle.agreement.proofs.Rules.{valid_phase}
use Rattle.agreement.proofs.Tables.{quorum_valid}
use Rattle.agreement.proofs.Unanimity.{unanimity_lasts}

-- only cabins that are not honest were kept in phase 1 with another value
pub one_choice_unanimous : (hall : Hall) (H : History) (i v : ℕ) → Laws hall H → OneChoice hall H v → Honest H i → Unanimous hall (H.kept i) 1 v
one_choice_unanimous hall H i v laws choice hi = record {
  converge = omega arith;
  others = λ j. not (H.honest j);
  few = laws.few;
  rest = λ j w e other. elim (cases_Bool (H.honest j)) [
    | inl hj ↦ absurd (other (choice.alone j w hj (laws.authentic i j 1 w hi hj e)))
    | inr hj ↦ not_from_false (H.honest j) hj
  ];
}

-- a decision rests on a quorum in a later phase
pub one_choice_decides : OneChoiceDecides
one_choice_decides hall H first laws i v w choice hi e =
    let filled = laws.filled i hi in
    let rests = laws.rests i w hi e in
    let d : ℕ = rests.0 in
    let once = quorum_valid hall (H.kept i) filled d w rests.2.enough in
    let later : 1 < d = omega (arith, rests.2.decide, valid_phase hall once.0 d w once.2) in
    unanimity_lasts hall (H.kept i) filled first 1 d v (one_choice_unanimous hall H i v laws choice hi) later w once
