-- The rule of a record's status, and the laws of a history that speak of status. Assumes nothing.
use Rattle.std.specs.Prelude.{◌≡◌, ℕ, ◌+◌, ◌-◌, ◌*◌, ◌/◌, ◌<◌, ◌≤◌, Bool, true, false, ◌&&◌, ◌||◌, ◌⊎◌, Some, ◌≢◌, nat_le, nat_lt}
use Rattle.agreement.specs.Rules.{Hall, Table, has_quorum, is_valid}
use Rattle.agreement.specs.Books.{Once}
use Rattle.agreement.specs.History.{DecideQuorum, History, Honest}

-- the highest DECIDE phase below φ
abbrev pub last_decide : ℕ → ℕ
last_decide φ = (φ - 1) / 3 * 3

-- Up to phase 3 a record is undecided. Later, decided needs a course with a quorum in the last DECIDE phase, and undecided
-- needs the book's support.
abbrev pub status_rule : Hall → Table → ℕ → ℕ → Bool → Bool
status_rule hall t φ v true = nat_lt 3 φ && (nat_lt v hall.book.courses && has_quorum hall t (last_decide φ) v)
status_rule hall t φ v false = nat_le φ 3 || hall.book.undecided t φ

-- whatever the course, ever has a record for phase d with another value
abbrev pub Split : Hall → Table → ℕ → Type 0
Split hall ever d = (v : ℕ) → v < hall.book.courses → (j : ℕ) × (w : ℕ) × (ever d j w ≡ true) × (w ≢ v)

-- undecided was once supported in the cycle after the DECIDE phase d
abbrev pub OpenAfter : Hall → Table → ℕ → Type 0
OpenAfter hall ever d = (φ : ℕ) × (d < φ) × (φ ≤ d + 3) × Once ever (λ t. hall.book.undecided t φ)

-- The laws of a history that catching up rests on.
pub record StatusLaws (hall : Hall) (H : History) : Type 0 where
  -- a cabin whose status is decided holds a decision
  pub decided : (i : ℕ) → Honest H i → H.decided i ≡ true → (v : ℕ) × (H.decision i ≡ Some v)
  -- beyond phase 3 a cabin is undecided only where its last DECIDE phase was split or undecided was supported after it
  pub undecided : (i : ℕ) → Honest H i → H.decided i ≡ false → 3 < H.phase i → Split hall (H.kept i) (last_decide (H.phase i)) ⊎ OpenAfter hall (H.kept i) (last_decide (H.phase i))

-- Where an honest cabin stands. The statements do not need these laws; what a cabin announces is valid by them.
pub record Standing (hall : Hall) (H : History) : Type 0 where
  -- its value is valid in its phase
  pub value : (i : ℕ) → Honest H i → 1 ≤ H.phase i → Once (H.kept i) (λ t. is_valid hall t (H.phase i) (H.value i))
  -- where its status is decided, its value has a quorum in an earlier DECIDE phase
  pub decided : (i : ℕ) → Honest H i → H.decided i ≡ true → (d : ℕ) × (d < H.phase i) × DecideQuorum hall (H.kept i) d (H.value i)
