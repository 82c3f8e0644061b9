-- A cabin on the move, before its decision is filled, and what filling it gives.
use Rattle.std.proofs.Common.{◌≡◌, ℕ, ◌<◌, ◌≤◌, Bool, true, false, cond, ltb, ◌⊎◌, Some, None, Option, refl, subst}
use Rattle.std.proofs.lemmas.Bool.{cond-true, false≢true, lt-ltb}
use Rattle.settings.specs.declared.status.Status.{Status}
use Rattle.settings.specs.declared.status.Status.TheVariants.{Undecided, Decided}
use Rattle.agreement.specs.Rules.{Hall, Table, is_valid}
use Rattle.agreement.specs.Books.{Once}
use Rattle.agreement.specs.History.{DecideQuorum}
use Rattle.agreement.specs.Status.{OpenAfter, Split, last_decide}
use Rattle.agreement.specs.TwoWay.{two_way, two_way_hall}
use Rattle.table.specs.Rules.{is_decided}
use Rattle.moves.specs.Moving.{decision_of}
use Rattle.runs.proofs.Sound.{Stands}

-- where a cabin stands, whatever decision it holds
pub record Poised (hall : Hall) (ever : Table) (phase value : ℕ) (decided : Bool) : Type 0 where
  pub begun : 1 ≤ phase
  pub valid : Once ever (λ t. is_valid hall t phase value)
  pub backed : decided ≡ true → (d : ℕ) × (d < phase) × DecideQuorum hall ever d value
  pub undecided : decided ≡ false → 3 < phase → Split hall ever (last_decide phase) ⊎ OpenAfter hall ever (last_decide phase)

-- a decision rests on a quorum in a DECIDE phase below φ
abbrev pub Rests : Hall → Table → ℕ → Option ℕ → Type 0
Rests hall ever φ decision = (v : ℕ) → decision ≡ Some v → (d : ℕ) × (d < φ) × DecideQuorum hall ever d v

-- so does a new decision
rests_on : (hall : Hall) (ever : Table) (φ v d : ℕ) → d < φ → DecideQuorum hall ever d v → Rests hall ever φ (Some v)
rests_on hall ever φ v d below quorum w e = let same : v ≡ w = cc in (d, below, subst (λ (u : ℕ). DecideQuorum hall ever d u) same quorum)

-- a decision that was held stays
pub decision_stays : (decision : Option ℕ) (status : Status) (v w : ℕ) → decision ≡ Some w → decision_of decision status v ≡ Some w
decision_stays decision status v w held = rw held

-- with a new decision, or with the one that it held, the cabin stands
stands_with : (hall : Hall) (ever : Table) (φ v : ℕ) (decided : Bool) (decision : Option ℕ) → Poised hall ever φ v decided → Rests hall ever φ decision → (decided ≡ true → (w : ℕ) × (decision ≡ Some w)) → Stands hall ever φ v decided decision
stands_with hall ever φ v decided decision poised rests held = record {
  begun = poised.begun;
  valid = poised.valid;
  rests = rests;
  backed = poised.backed;
  held = held;
  undecided = poised.undecided;
}

-- the decision that is filled is the value, which is a course: it has a quorum
pub settled_stands : (n f : ℕ) (ever : Table) (φ v : ℕ) (status : Status) (decision : Option ℕ) → Poised (two_way_hall n f) ever φ v (is_decided status) → Rests (two_way_hall n f) ever φ decision → Stands (two_way_hall n f) ever φ v (is_decided status) (decision_of decision status v)
unfolding two_way
settled_stands n f ever φ v status (Some w) poised rests = stands_with (two_way_hall n f) ever φ v (is_decided status) (Some w) poised rests (λ _. (w, refl))
settled_stands n f ever φ v Undecided None poised rests = stands_with (two_way_hall n f) ever φ v false None poised rests (λ e. absurd (false≢true e))
settled_stands n f ever φ v Decided None poised rests =
    let own = poised.backed refl in
    let filled : cond (ltb v 2) (Some v) None ≡ Some v = cond-true (ltb v 2) (Some v) None (lt-ltb v 2 own.2.course) in
    rw filled (stands_with (two_way_hall n f) ever φ v true (Some v) poised (rests_on (two_way_hall n f) ever φ v own.0 own.1 own.2) (λ _. (v, refl)))
