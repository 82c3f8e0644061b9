-- Under one choice every decision is that choice, and every honest cabin beyond phase 3 has decided.
use Rattle.std.proofs.Common.{arith}
use Rattle.agreement.proofs.CatchingUp.{one_choice_decided}
use Rattle.agreement.proofs.Validity.{one_choice_decides}
use Rattle.agreement.proofs.decided_by.Goals as goal

pub returns-clause-decision : goal.returns-clause-decision
returns-clause-decision c = one_choice_decides

pub returns-clause-phase : goal.returns-clause-phase
returns-clause-phase c =
    λ hall H first late laws status i v choice hi far. one_choice_decided hall H first late laws status i v choice hi (omega arith)
