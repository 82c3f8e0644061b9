-- A cabin's table: its places, their order, and the records that it holds. Assumes nothing.
use Rattle.std.specs.Prelude.{ℕ, ◌+◌, ◌-◌, ◌*◌, Bool, true, false, cond, ◌&&◌, List, length, replicate, Some, None, Option, nat_le, nat_lt, slice_index_or}
use Rattle.settings.specs.declared.settings.Settings.{Settings}
use Rattle.agreement.specs.Rules.{Table}
use Rattle.table.specs.declared.place.Place.{Place}
use Rattle.table.specs.declared.place.Place.TheVariants.{Empty, Filled}

-- one place for each of three values, n cabins and P phases
abbrev pub places_of : Settings → ℕ
places_of s = 3 * s.cabins * s.phases

-- a table of the same size, with every place empty
abbrev pub emptied : List Place → List Place
emptied t = replicate (length t) Empty

-- a phase from 1 to P, a cabin below n and a value up to 2
abbrev pub in_table : Settings → ℕ → ℕ → ℕ → Bool
in_table s φ i v = nat_le 1 φ && (nat_le φ s.phases && (nat_lt i s.cabins && nat_le v 2))

-- the place of the records for phase φ of cabin i with value v: by phase, then by cabin, then by value
abbrev pub place_of : Settings → ℕ → ℕ → ℕ → ℕ
place_of s φ i v = (φ - 1) * (3 * s.cabins) + 3 * i + v

-- that place, if a table has one
abbrev pub place_answer : Settings → ℕ → ℕ → ℕ → Option ℕ
place_answer s φ i v = cond (in_table s φ i v) (Some (place_of s φ i v)) None

abbrev pub is_filled : Place → Bool
is_filled Empty = false
is_filled (Filled status word) = true

-- whether place k of a table is filled
abbrev pub filled_at : List Place → ℕ → Bool
filled_at t k = is_filled (slice_index_or t k Empty)

-- the records at the places that a test picks
unfoldable pub records_at : Settings → (ℕ → Bool) → Table
records_at s picked φ i v = in_table s φ i v && picked (place_of s φ i v)

-- the records of a table, as the rules see them: those of its filled places
abbrev pub records_of : Settings → List Place → Table
records_of s t = records_at s (filled_at t)
