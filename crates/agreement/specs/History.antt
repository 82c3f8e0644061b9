-- A history of a hall, and its laws. Assumes nothing.
use Rattle.std.specs.Prelude.{◌≡◌, ℕ, ◌%◌, ◌<◌, ◌≤◌, Bool, true, not, Some, Option}
use Rattle.agreement.specs.Counting.{count}
use Rattle.agreement.specs.Rules.{Hall, QuorumFor, Table}
use Rattle.agreement.specs.Books.{Filled}

-- What has happened in a hall up to some time. Of a cabin that is not honest nothing counts but what others kept of it.
pub record History : Type 0 where
  -- who is honest
  pub honest : ℕ → Bool
  -- kept i: all records that cabin i has ever kept
  pub kept : ℕ → Table
  -- announced j φ v: cabin j has announced value v in phase φ
  pub announced : ℕ → ℕ → ℕ → Bool
  -- where each cabin stands now: its phase (0 until it is opened), value, whether its status is decided, its decision
  pub phase : ℕ → ℕ
  pub value : ℕ → ℕ
  pub decided : ℕ → Bool
  pub decision : ℕ → Option ℕ

abbrev pub Honest : History → ℕ → Type 0
Honest H i = H.honest i ≡ true

-- a table has a quorum for the course v in the DECIDE phase d
pub record DecideQuorum (hall : Hall) (t : Table) (d v : ℕ) : Type 0 where
  pub decide : d % 3 ≡ 0
  pub course : v < hall.book.courses
  pub enough : QuorumFor hall t d v

-- The laws of a history that agreement rests on.
pub record Laws (hall : Hall) (H : History) : Type 0 where
  -- at most f cabins are not honest
  pub few : count (λ j. not (H.honest j)) hall.cabins ≤ hall.faults
  -- authentic: what an honest cabin kept in the name of an honest one, that one announced
  pub authentic : (i j φ v : ℕ) → Honest H i → Honest H j → H.kept i φ j v ≡ true → H.announced j φ v ≡ true
  -- one voice: an honest cabin announces one value in a phase, none in a phase to come, and in its own phase its value
  pub one_voice : (j φ v w : ℕ) → Honest H j → H.announced j φ v ≡ true → H.announced j φ w ≡ true → v ≡ w
  pub so_far : (j φ v : ℕ) → Honest H j → H.announced j φ v ≡ true → φ ≤ H.phase j
  pub present : (j v : ℕ) → Honest H j → H.announced j (H.phase j) v ≡ true → v ≡ H.value j
  -- what an honest cabin kept was valid when it was kept
  pub filled : (i : ℕ) → Honest H i → Filled hall (H.kept i)
  -- a decision rests on a quorum in an earlier DECIDE phase
  pub rests : (i v : ℕ) → Honest H i → H.decision i ≡ Some v → (d : ℕ) × (d < H.phase i) × DecideQuorum hall (H.kept i) d v
