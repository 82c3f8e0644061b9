-- Tables of records, and the rules by which a record is valid at a table. Assumes nothing.
use Rattle.std.specs.Prelude.{ℕ, ◌+◌, ◌-◌, ◌%◌, ◌≤◌, Bool, cond, ◌&&◌, ◌||◌, ◌==◌, nat_le, nat_lt}
use Rattle.settings.specs.Bounds.{quorum_of}
use Rattle.settings.specs.Kinds.{kind_of}
use Rattle.settings.specs.declared.kind.PhaseKind.{PhaseKind}
use Rattle.settings.specs.declared.kind.PhaseKind.TheVariants.{Converge, Lock, Decide}
use Rattle.agreement.specs.Counting.{count, some}

-- a table: whether it has a record for this phase, of this cabin, with this value
abbrev pub Table : Type 0
Table = ℕ → ℕ → ℕ → Bool

-- c(φ, v): of how many of n cabins a table has a record for phase φ with value v
unfoldable pub tally : ℕ → Table → ℕ → ℕ → ℕ
tally n t φ v = count (λ j. t φ j v) n

-- A rule book: the rules that differ from book to book.
pub record Book : Type 0 where
  -- the courses are the values below this number; the number itself means no preference
  pub courses : ℕ
  -- whether a table supports a value in a LOCK phase
  pub lock : Table → ℕ → ℕ → Bool
  -- whether a table supports no preference in a DECIDE phase
  pub no_preference : Table → ℕ → Bool
  -- whether a table supports undecided in a phase above 3
  pub undecided : Table → ℕ → Bool
  -- the value with which a cabin leaves a CONVERGE phase
  pub pick : Table → ℕ → ℕ

-- A hall: how many cabins it has (n), how many of them may be faulty (f), and its rule book.
pub record Hall : Type 0 where
  pub cabins : ℕ
  pub faults : ℕ
  pub book : Book

-- q
abbrev pub quorum : Hall → ℕ
quorum hall = quorum_of hall.cabins hall.faults

-- c(φ): of how many cabins a table has a record for phase φ, whatever its value
unfoldable pub turnout : Hall → Table → ℕ → ℕ
turnout hall t φ = count (λ j. some (t φ j) (hall.book.courses + 1)) hall.cabins

-- c(φ) ≥ q
abbrev pub QuorumIn : Hall → Table → ℕ → Type 0
QuorumIn hall t φ = quorum hall ≤ turnout hall t φ

-- c(φ, v) ≥ q, as a fact and as a test
abbrev pub QuorumFor : Hall → Table → ℕ → ℕ → Type 0
QuorumFor hall t φ v = quorum hall ≤ tally hall.cabins t φ v

abbrev pub has_quorum : Hall → Table → ℕ → ℕ → Bool
has_quorum hall t φ v = nat_le (quorum hall) (tally hall.cabins t φ v)

-- a phase from 1 on, and a course; no preference only in DECIDE phases
abbrev pub is_lawful : Hall → ℕ → ℕ → Bool
is_lawful hall φ v = nat_le 1 φ && (nat_lt v hall.book.courses || (v == hall.book.courses && φ % 3 == 0))

-- phase 1, or a quorum in the phase before
abbrev pub phase_rule : Hall → Table → ℕ → Bool
phase_rule hall t φ = φ == 1 || nat_le (quorum hall) (turnout hall t (φ - 1))

-- CONVERGE: anything in phase 1; later a quorum for the value in the LOCK phase before, or one for no preference in
-- the DECIDE phase before. LOCK: what the book supports. DECIDE: a quorum for the course in the LOCK phase before; no
-- preference where the book supports it.
abbrev pub value_rule_in : PhaseKind → Hall → Table → ℕ → ℕ → Bool
value_rule_in Converge hall t φ v = φ == 1 || (has_quorum hall t (φ - 2) v || has_quorum hall t (φ - 1) hall.book.courses)
value_rule_in Lock hall t φ v = hall.book.lock t φ v
value_rule_in Decide hall t φ v = cond (v == hall.book.courses) (hall.book.no_preference t φ) (has_quorum hall t (φ - 1) v)

abbrev pub value_rule : Hall → Table → ℕ → ℕ → Bool
value_rule hall t φ v = value_rule_in (kind_of φ) hall t φ v

-- a record for phase φ with value v is valid at a table; its status has a rule of its own
unfoldable pub is_valid : Hall → Table → ℕ → ℕ → Bool
is_valid hall t φ v = is_lawful hall φ v && (phase_rule hall t φ && value_rule hall t φ v)
