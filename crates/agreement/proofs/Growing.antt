-- What stays as tables grow: facts that held once, tables filled by hearing, quorums, split phases.
use Rattle.std.proofs.Common.{◌≡◌, ℕ, Bool, true, ◌⊎◌, refl, inl, inr}
use Rattle.agreement.specs.Rules.{Hall, Table, is_valid}
use Rattle.agreement.specs.Books.{Filled, Once, Within}
use Rattle.agreement.specs.History.{DecideQuorum}
use Rattle.agreement.specs.Status.{Split}
use Rattle.agreement.proofs.Tables.{quorum_once}

-- what held once, held once of a larger table
pub once_more : (a b : Table) (test : Table → Bool) → Within a b → Once a test → Once b test
once_more a b test within once = (once.0, λ φ j v e. within φ j v (once.1 φ j v e), once.2)

-- a table stays filled by hearing if its new records were once valid
pub filled_more : (hall : Hall) (a b : Table) → Filled hall a → Within a b → ((φ j v : ℕ) → b φ j v ≡ true → (a φ j v ≡ true) ⊎ Once b (λ t. is_valid hall t φ v)) → Filled hall b
filled_more hall a b filled within new = record {
  valid = λ φ j v e. elim (new φ j v e) [ inl old ↦ once_more a b (λ t. is_valid hall t φ v) within (filled.valid φ j v old) | inr added ↦ added ];
}

-- a quorum in DECIDE stays one
pub decide_quorum_more : (hall : Hall) (a b : Table) (d v : ℕ) → Within a b → DecideQuorum hall a d v → DecideQuorum hall b d v
decide_quorum_more hall a b d v within rests = record { decide = rests.decide; course = rests.course; enough = quorum_once hall b a d d v within refl rests.enough }

-- a split phase stays split
pub split_more : (hall : Hall) (a b : Table) (d : ℕ) → Within a b → Split hall a d → Split hall b d
split_more hall a b d within split v course = let s = split v course in (s.0, s.1, within d s.0 s.1 s.2, s.3)
