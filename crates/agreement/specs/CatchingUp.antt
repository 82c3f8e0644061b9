-- What is proved of cabins that have come far enough: they have decided. Assumes nothing.
use Rattle.std.specs.Prelude.{◌≡◌, ℕ, ◌<◌, ◌≤◌, true, Some}
use Rattle.agreement.specs.Rules.{Hall}
use Rattle.agreement.specs.Books.{FirstLaw, FirstLawUndecided}
use Rattle.agreement.specs.History.{DecideQuorum, History, Honest, Laws}
use Rattle.agreement.specs.Agreement.{OneChoice}
use Rattle.agreement.specs.Status.{StatusLaws}

-- a cabin has decided v: its status is decided, and it holds the decision v
pub record HasDecided (H : History) (i v : ℕ) : Type 0 where
  pub status : H.decided i ≡ true
  pub decision : H.decision i ≡ Some v

-- Validity: under one choice v every honest cabin in phase r or later has decided v.
abbrev pub OneChoiceDecidedBy : ℕ → Type 0
OneChoiceDecidedBy r =
    (hall : Hall) (H : History) → FirstLaw hall → FirstLawUndecided hall → Laws hall H → StatusLaws hall H
    → (i v : ℕ) → OneChoice hall H v → Honest H i → r ≤ H.phase i → HasDecided H i v

-- Catching up: where an honest cabin has kept a quorum for a course v in a DECIDE phase below p, every honest cabin in
-- phase r or later has decided v. (A decision that a hearing gave rests on such a quorum, with p the phase it led to.)
abbrev pub CaughtUpBy : ℕ → ℕ → Type 0
CaughtUpBy p r =
    (hall : Hall) (H : History) → FirstLaw hall → FirstLawUndecided hall → Laws hall H → StatusLaws hall H
    → (i j d v : ℕ) → Honest H i → Honest H j → DecideQuorum hall (H.kept i) d v → d < p → r ≤ H.phase j → HasDecided H j v
