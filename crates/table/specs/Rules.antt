-- The counts of a table and the three rules, as instances of the agreement's. Assumes nothing.
use Rattle.std.specs.Prelude.{ℕ, Bool, true, false}
use Rattle.settings.specs.declared.settings.Settings.{Settings}
use Rattle.settings.specs.declared.status.Status.{Status}
use Rattle.settings.specs.declared.status.Status.TheVariants.{Undecided, Decided}
use Rattle.agreement.specs.Rules.{Hall, Table, phase_rule, tally, turnout, value_rule}
use Rattle.agreement.specs.Status.{status_rule}
use Rattle.agreement.specs.TwoWay.{two_way_hall}

-- the hall of some settings, under the two-way rules
abbrev pub hall_of : Settings → Hall
hall_of s = two_way_hall s.cabins s.faults

-- c(φ, v): how many cabins have a record for phase φ with value v
abbrev pub count_for : Settings → Table → ℕ → ℕ → ℕ
count_for s t φ v = tally s.cabins t φ v

-- c(φ): how many cabins have a record for phase φ
abbrev pub count_in : Settings → Table → ℕ → ℕ
count_in s t φ = turnout (hall_of s) t φ

abbrev pub is_decided : Status → Bool
is_decided Undecided = false
is_decided Decided = true

-- what each rule says of a record for phase φ with value v and a status, at the records t
abbrev pub meets_phase : Settings → Table → ℕ → Bool
meets_phase s t φ = phase_rule (hall_of s) t φ

abbrev pub meets_value : Settings → Table → ℕ → ℕ → Bool
meets_value s t φ v = value_rule (hall_of s) t φ v

abbrev pub meets_status : Settings → Table → ℕ → ℕ → Status → Bool
meets_status s t φ v status = status_rule (hall_of s) t φ v (is_decided status)
