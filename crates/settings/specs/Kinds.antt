-- The kind of a phase, and the number of a status. Assumes nothing.
use Rattle.std.specs.Prelude.{ℕ, ◌%◌, cond, ◌==◌, Ok, Err, Result}
use Rattle.settings.specs.declared.kind.PhaseKind.{PhaseKind}
use Rattle.settings.specs.declared.kind.PhaseKind.TheVariants.{Converge, Lock, Decide}
use Rattle.settings.specs.declared.status.Status.{Status}
use Rattle.settings.specs.declared.status.Status.TheVariants.{Undecided, Decided}

-- by the remainder by three: 1 is CONVERGE, 2 is LOCK, 0 is DECIDE
abbrev pub kind_of : ℕ → PhaseKind
kind_of φ = cond (φ % 3 == 1) Converge (cond (φ % 3 == 2) Lock Decide)

abbrev pub status_number : Status → ℕ
status_number Undecided = 0
status_number Decided = 1

-- the status with a number: 0 is undecided, 1 is decided, and refusal 11 tells that another number is none
abbrev pub status_answer : ℕ → Result Status ℕ
status_answer k = cond (k == 0) (Ok Undecided) (cond (k == 1) (Ok Decided) (Err 11))
