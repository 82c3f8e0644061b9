-- The two-way rule book. Assumes nothing.
use Rattle.std.specs.Prelude.{ℕ, ◌-◌, ◌*◌, ◌/◌, ◌<◌, Bool, cond, ◌&&◌, nat_le, nat_lt}
use Rattle.settings.specs.Bounds.{weak_quorum_of}
use Rattle.agreement.specs.Rules.{Book, Hall, Table, tally}
use Rattle.agreement.specs.Books.{BookLaws}

-- c(φ, v) ≥ h
abbrev pub has_weak_quorum : ℕ → ℕ → Table → ℕ → ℕ → Bool
has_weak_quorum n f t φ v = nat_le (weak_quorum_of n f) (tally n t φ v)

-- both courses have a weak quorum
abbrev pub both_held : ℕ → ℕ → Table → ℕ → Bool
both_held n f t φ = has_weak_quorum n f t φ 0 && has_weak_quorum n f t φ 1

-- the highest LOCK phase below φ
abbrev pub last_lock : ℕ → ℕ
last_lock φ = φ / 3 * 3 - 1

-- Two courses, 0 and 1. LOCK needs a weak quorum for the value in the CONVERGE phase before; no preference needs one for
-- each course in the CONVERGE phase of its cycle; undecided needs one for each course in the last LOCK phase. Leaving
-- CONVERGE goes by majority, and a tie is 0.
unfoldable pub two_way : ℕ → ℕ → Book
two_way n f = record {
  courses = 2;
  lock = λ t φ v. has_weak_quorum n f t (φ - 1) v;
  no_preference = λ t φ. both_held n f t (φ - 2);
  undecided = λ t φ. both_held n f t (last_lock φ);
  pick = λ t φ. cond (nat_lt (tally n t φ 0) (tally n t φ 1)) 1 0;
}

abbrev pub two_way_hall : ℕ → ℕ → Hall
two_way_hall n f = record { cabins = n; faults = f; book = two_way n f }

-- The two-way book keeps both laws in every hall.
abbrev pub TwoWayLawful : Type 0
TwoWayLawful = (n f : ℕ) → 3 * f < n → BookLaws (two_way_hall n f)
