-- Unanimity in a CONVERGE phase of one table lasts through all later phases.
use Rattle.std.proofs.Common.{ℕ, zero, suc, ◌+◌, ◌-◌, ◌*◌, ◌/◌, ◌<◌, sym, subst, inl, inr, arith}
use Rattle.std.proofs.lemmas.Bool.{cases_eq}
use Rattle.agreement.specs.Rules.{Hall, Table, is_valid}
use Rattle.agreement.specs.Books.{Filled, FirstLaw, Once, Unanimous}
use Rattle.agreement.proofs.Rules.{valid_lock, valid_no_preference}
use Rattle.agreement.proofs.Tables.{Only, converge_once, decide_once, only_unanimous, quorum_valid}

module _ (hall : Hall) (ever : Table) (filled : Filled hall ever) (first : FirstLaw hall) where
  -- LOCK: the book supports no other value
  pub lock_only : (ψ v : ℕ) → Unanimous hall ever ψ v → Only hall ever (ψ + 1) v
  lock_only ψ v u w once =
      first.lock ever ψ v w filled u (once.0, once.1, valid_lock hall once.0 (ψ + 1) w (omega arith) once.2)

  -- DECIDE: the book does not support no preference
  none_never : (ψ v : ℕ) → Unanimous hall ever ψ v → Once ever (λ t. is_valid hall t (ψ + 2) hall.book.courses) → ⊥
  none_never ψ v u once =
      first.no_preference ever ψ v filled u (once.0, once.1, valid_no_preference hall once.0 (ψ + 2) (omega arith) once.2)

  -- and a course has a quorum in LOCK
  pub decide_only : (ψ v : ℕ) → Unanimous hall ever ψ v → Only hall ever (ψ + 2) v
  decide_only ψ v u w once =
      elim (cases_eq w hall.book.courses) [
        | inl none ↦ absurd (none_never ψ v u (subst (λ (x : ℕ). Once ever (λ t. is_valid hall t (ψ + 2) x)) none once))
        | inr course ↦
            let backed = decide_once hall ever (ψ + 2) (ψ + 1) w (omega arith) (omega arith) course once in
            lock_only ψ v u w (quorum_valid hall ever filled (ψ + 1) w backed)
      ]

  -- the next CONVERGE: a quorum in LOCK, since none had no preference in DECIDE
  pub converge_only : (ψ v : ℕ) → Unanimous hall ever ψ v → Only hall ever (ψ + 3) v
  converge_only ψ v u w once =
      elim (converge_once hall ever (ψ + 3) (ψ + 1) (ψ + 2) w (omega arith) (omega arith) (omega arith) once) [
        | inl locked ↦ lock_only ψ v u w (quorum_valid hall ever filled (ψ + 1) w locked)
        | inr none ↦ absurd (none_never ψ v u (quorum_valid hall ever filled (ψ + 2) hall.book.courses none))
      ]

  -- k cycles later
  pub unanimous_later : (k ψ v : ℕ) → Unanimous hall ever ψ v → Unanimous hall ever (ψ + k * 3) v
  unanimous_later zero ψ v u = subst (λ (φ : ℕ). Unanimous hall ever φ v) (omega arith) u
  unanimous_later (suc k) ψ v u =
      let next : Unanimous hall ever (ψ + 3) v = only_unanimous hall ever filled (ψ + 3) v (omega arith) (converge_only ψ v u) in
      subst (λ (φ : ℕ). Unanimous hall ever φ v) (omega arith) (unanimous_later k (ψ + 3) v next)

  -- unanimity lasts: in every later phase only v was ever valid
  pub unanimity_lasts : (ψ φ v : ℕ) → Unanimous hall ever ψ v → ψ < φ → Only hall ever φ v
  unanimity_lasts ψ φ v u later =
      let k : ℕ = (φ - ψ - 1) / 3 in
      let start : Unanimous hall ever (ψ + k * 3) v = unanimous_later k ψ v u in
      elim (cases_eq φ (ψ + k * 3 + 1)) [
        | inl lock ↦ subst (λ (x : ℕ). Only hall ever x v) (sym lock) (lock_only (ψ + k * 3) v start)
        | inr not_lock ↦ elim (cases_eq φ (ψ + k * 3 + 2)) [
          | inl decide ↦ subst (λ (x : ℕ). Only hall ever x v) (sym decide) (decide_only (ψ + k * 3) v start)
          | inr not_decide ↦ subst (λ (x : ℕ). Only hall ever x v) (omega arith) (converge_only (ψ + k * 3) v start)
        ]
      ]
