-- The two laws that a rule book keeps. Assumes nothing.
use Rattle.std.specs.Prelude.{◌≡◌, ℕ, ◌+◌, ◌%◌, ◌<◌, ◌≤◌, Bool, true, ◌≢◌}
use Rattle.agreement.specs.Counting.{count}
use Rattle.agreement.specs.Rules.{Hall, QuorumIn, Table, is_valid}

-- every record in t is in ever
abbrev pub Within : Table → Table → Type 0
Within t ever = (φ j v : ℕ) → t φ j v ≡ true → ever φ j v ≡ true

-- The test held once: of some table whose records are all in ever. Where ever is all that a cabin has ever kept, the
-- cabin's table at any time was such a table.
abbrev pub Once : Table → (Table → Bool) → Type 0
Once ever test = (t : Table) × Within t ever × (test t ≡ true)

-- ever was filled by hearing: each of its records was once valid
pub record Filled (hall : Hall) (ever : Table) : Type 0 where
  pub valid : (φ j v : ℕ) → ever φ j v ≡ true → Once ever (λ t. is_valid hall t φ v)

-- in the CONVERGE phase ψ at most f cabins are in ever with anything but v
pub record Unanimous (hall : Hall) (ever : Table) (ψ v : ℕ) : Type 0 where
  pub converge : ψ % 3 ≡ 1
  pub others : ℕ → Bool
  pub few : count others hall.cabins ≤ hall.faults
  pub rest : (j w : ℕ) → ever ψ j w ≡ true → w ≢ v → others j ≡ true

-- The first law of a book: after a unanimous CONVERGE phase its cycle supports one LOCK value, the unanimous one, and never
-- no preference.
pub record FirstLaw (hall : Hall) : Type 0 where
  pub lock : (ever : Table) (ψ v w : ℕ) → Filled hall ever → Unanimous hall ever ψ v → Once ever (λ t. hall.book.lock t (ψ + 1) w) → w ≡ v
  pub no_preference : (ever : Table) (ψ v : ℕ) → Filled hall ever → Unanimous hall ever ψ v → Once ever (λ t. hall.book.no_preference t (ψ + 2)) → ⊥

-- The first law, of undecided: the cycle after it supports no undecided record.
pub record FirstLawUndecided (hall : Hall) : Type 0 where
  pub undecided : (ever : Table) (ψ v φ : ℕ) → Filled hall ever → Unanimous hall ever ψ v → ψ + 3 ≤ φ → φ ≤ ψ + 5 → Once ever (λ t. hall.book.undecided t φ) → ⊥

-- The second law of a book: what it picks is a course, and a pick made with a quorum in CONVERGE holds in the LOCK phase
-- that follows.
pub record SecondLaw (hall : Hall) : Type 0 where
  pub course : (t : Table) (ψ : ℕ) → hall.book.pick t ψ < hall.book.courses
  pub lock : (ever t : Table) (ψ : ℕ) → Filled hall ever → Within t ever → ψ % 3 ≡ 1 → QuorumIn hall t ψ → hall.book.lock t (ψ + 1) (hall.book.pick t ψ) ≡ true

-- Both laws.
pub record BookLaws (hall : Hall) : Type 0 where
  pub first : FirstLaw hall
  pub undecided : FirstLawUndecided hall
  pub second : SecondLaw hall
