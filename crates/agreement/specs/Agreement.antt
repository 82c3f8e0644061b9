-- What is proved of decisions: agreement, and validity. Assumes nothing.
use Rattle.std.specs.Prelude.{◌≡◌, ℕ, ◌<◌, Bool, true, Some, None, Option, ◌==◌}
use Rattle.agreement.specs.Rules.{Hall}
use Rattle.agreement.specs.Books.{FirstLaw}
use Rattle.agreement.specs.History.{History, Honest, Laws}

-- Agreement: two decisions of honest cabins are equal.
abbrev pub DecisionsAgree : Type 0
DecisionsAgree =
    (hall : Hall) (H : History) → FirstLaw hall → Laws hall H
    → (i j v w : ℕ) → Honest H i → Honest H j → H.decision i ≡ Some v → H.decision j ≡ Some w → v ≡ w

-- two decisions, either of which may be absent, do not differ
abbrev pub compatible : Option ℕ → Option ℕ → Bool
compatible None second = true
compatible (Some v) None = true
compatible (Some v) (Some w) = v == w

-- v is a course, and every honest cabin that announced in phase 1 announced v
pub record OneChoice (hall : Hall) (H : History) (v : ℕ) : Type 0 where
  pub course : v < hall.book.courses
  pub alone : (j w : ℕ) → Honest H j → H.announced j 1 w ≡ true → w ≡ v

-- Validity: under one choice v every decision of an honest cabin is v.
abbrev pub OneChoiceDecides : Type 0
OneChoiceDecides =
    (hall : Hall) (H : History) → FirstLaw hall → Laws hall H
    → (i v w : ℕ) → OneChoice hall H v → Honest H i → H.decision i ≡ Some w → w ≡ v
