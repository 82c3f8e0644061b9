-- What the rules say of a valid record, phase by phase.
use Rattle.std.proofs.Common.{◌≡◌, ℕ, ◌-◌, ◌%◌, ◌<◌, ◌≤◌, true, ◌⊎◌, refl, subst, arith}
use Rattle.std.proofs.lemmas.Bool.{leb-true, eq-eqb, ne_eqb}
use Rattle.std.proofs.lemmas.Bool.Decides.{nat_tests}
use Rattle.std.proofs.lemmas.Grind.{common_steps}
use Rattle.settings.specs.Kinds.{kind_of}
use Rattle.settings.specs.declared.kind.PhaseKind.{PhaseKind}
use Rattle.settings.specs.declared.kind.PhaseKind.TheVariants.{Converge, Lock, Decide}
use Rattle.agreement.specs.Rules.{Hall, QuorumFor, Table, is_lawful, is_valid, phase_rule, value_rule, value_rule_in}

pub kind_converge : (φ : ℕ) → φ % 3 ≡ 1 → kind_of φ ≡ Converge
kind_converge φ e = rw (eq-eqb (φ % 3) 1 e)

pub kind_lock : (φ : ℕ) → φ % 3 ≡ 2 → kind_of φ ≡ Lock
kind_lock φ e = rw (ne_eqb (φ % 3) 1 (λ h. omega arith), eq-eqb (φ % 3) 2 e)

pub kind_decide : (φ : ℕ) → φ % 3 ≡ 0 → kind_of φ ≡ Decide
kind_decide φ e = rw (ne_eqb (φ % 3) 1 (λ h. omega arith), ne_eqb (φ % 3) 2 (λ h. omega arith))

-- the parts of a valid record
valid_parts : (hall : Hall) (t : Table) (φ v : ℕ) → is_valid hall t φ v ≡ true → (is_lawful hall φ v ≡ true) × (phase_rule hall t φ ≡ true) × (value_rule hall t φ v ≡ true)
unfolding is_valid
valid_parts hall t φ v ok = grind (arith, common_steps)

pub valid_from : (hall : Hall) (t : Table) (φ v : ℕ) → is_lawful hall φ v ≡ true → phase_rule hall t φ ≡ true → value_rule hall t φ v ≡ true → is_valid hall t φ v ≡ true
unfolding is_valid
valid_from hall t φ v lawful ready backed = grind (arith, common_steps)

rule_in : (hall : Hall) (t : Table) (φ v : ℕ) (kind : PhaseKind) → kind_of φ ≡ kind → is_valid hall t φ v ≡ true → value_rule_in kind hall t φ v ≡ true
rule_in hall t φ v kind e ok = subst (λ (k : PhaseKind). value_rule_in k hall t φ v ≡ true) e (valid_parts hall t φ v ok).2

-- a valid record has a phase from 1 on
pub valid_phase : (hall : Hall) (t : Table) (φ v : ℕ) → is_valid hall t φ v ≡ true → 1 ≤ φ
valid_phase hall t φ v ok = let p = (valid_parts hall t φ v ok).0 in grind (arith, nat_tests)

-- its value is a course, or no preference in a DECIDE phase
pub valid_course : (hall : Hall) (t : Table) (φ v : ℕ) → is_valid hall t φ v ≡ true → (φ % 3 ≡ 0 → ⊥) → v < hall.book.courses
valid_course hall t φ v ok other = let p = (valid_parts hall t φ v ok).0 in grind (arith, nat_tests)

-- in any phase it is a course, or no preference
pub valid_value : (hall : Hall) (t : Table) (φ v : ℕ) → is_valid hall t φ v ≡ true → v ≤ hall.book.courses
valid_value hall t φ v ok = let p = (valid_parts hall t φ v ok).0 in grind (arith, nat_tests)

-- in LOCK the book supports it
pub valid_lock : (hall : Hall) (t : Table) (φ v : ℕ) → φ % 3 ≡ 2 → is_valid hall t φ v ≡ true → hall.book.lock t φ v ≡ true
valid_lock hall t φ v e ok = rule_in hall t φ v Lock (kind_lock φ e) ok

-- a course in DECIDE has a quorum in the phase before
pub valid_decide : (hall : Hall) (t : Table) (φ v : ℕ) → φ % 3 ≡ 0 → (v ≡ hall.book.courses → ⊥) → is_valid hall t φ v ≡ true → QuorumFor hall t (φ - 1) v
valid_decide hall t φ v e course ok =
    let enough = leb-true _ _ (rw (ne_eqb v hall.book.courses course) at (rule_in hall t φ v Decide (kind_decide φ e) ok)) in
    omega arith

-- no preference is supported by the book
pub valid_no_preference : (hall : Hall) (t : Table) (φ : ℕ) → φ % 3 ≡ 0 → is_valid hall t φ hall.book.courses ≡ true → hall.book.no_preference t φ ≡ true
valid_no_preference hall t φ e ok =
    rw (eq-eqb hall.book.courses hall.book.courses refl) at (rule_in hall t φ hall.book.courses Decide (kind_decide φ e) ok)

-- in a later CONVERGE the value has a quorum two phases before, or no preference has one in the phase before
pub valid_converge : (hall : Hall) (t : Table) (φ v : ℕ) → φ % 3 ≡ 1 → (φ ≡ 1 → ⊥) → is_valid hall t φ v ≡ true → QuorumFor hall t (φ - 2) v ⊎ QuorumFor hall t (φ - 1) hall.book.courses
valid_converge hall t φ v e later ok =
    let backed = rw (ne_eqb φ 1 later) at (rule_in hall t φ v Converge (kind_converge φ e) ok) in
    grind (arith, nat_tests)
