-- The arithmetic of quorums and weak quorums, and what two quorums share.
use Rattle.std.proofs.Common.{◌≡◌, ℕ, ◌+◌, ◌*◌, ◌<◌, ◌≤◌, Bool, true, not, arith}
use Rattle.std.proofs.lemmas.Bool.{not-false}
use Rattle.settings.specs.Bounds.{weak_quorum_of}
use Rattle.agreement.specs.Counting.{count}
use Rattle.agreement.specs.Rules.{Hall, Table, quorum, tally}
use Rattle.agreement.proofs.Counting.{count_shared}

-- two quorums have more than n + f members
pub quorum_twice : (hall : Hall) → hall.cabins + hall.faults < quorum hall + quorum hall
quorum_twice hall = omega arith

-- a quorum has more than 2f members
pub quorum_above : (hall : Hall) → 3 * hall.faults < hall.cabins → 2 * hall.faults < quorum hall
quorum_above hall third = omega arith

-- a weak quorum has more than f members
pub weak_quorum_above : (n f : ℕ) → 3 * f < n → f < weak_quorum_of n f
weak_quorum_above n f third = omega arith

-- of two numbers whose sum is at least a quorum, the larger is at least a weak quorum
pub weak_quorum_larger : (hall : Hall) (a b : ℕ) → quorum hall ≤ a + b → b ≤ a → weak_quorum_of hall.cabins hall.faults ≤ a
weak_quorum_larger hall a b enough larger = omega arith

-- an honest cabin that both tables have in phase φ, one with v and one with w
pub record Common (honest : ℕ → Bool) (s t : Table) (φ v w : ℕ) : Type 0 where
  pub cabin : ℕ
  pub trusted : honest cabin ≡ true
  pub first : s φ cabin v ≡ true
  pub second : t φ cabin w ≡ true

-- two quorums of one phase share an honest cabin
pub quorums_share : (hall : Hall) (honest : ℕ → Bool) (s t : Table) (φ v w : ℕ) → count (λ j. not (honest j)) hall.cabins ≤ hall.faults → quorum hall ≤ tally hall.cabins s φ v → quorum hall ≤ tally hall.cabins t φ w → Common honest s t φ v w
unfolding tally
quorums_share hall honest s t φ v w few p q =
    let shared = count_shared (λ j. s φ j v) (λ j. t φ j w) (λ j. not (honest j)) hall.cabins (omega (arith, quorum_twice hall)) in
    record {
      cabin = shared.member;
      trusted = not-false (honest shared.member) shared.outside;
      first = shared.first;
      second = shared.second;
    }
