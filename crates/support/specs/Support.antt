-- What the support of an announcement is. Assumes nothing.
use Rattle.std.specs.Prelude.{◌≡◌, ℕ, ◌+◌, ◌*◌, ◌/◌, ◌%◌, ◌<◌, ◌≤◌, Bool, true, false, ◌||◌, List, [], ◌∷◌, length, ◌==◌, slice_index}
use Rattle.settings.specs.declared.settings.Settings.{Settings}
use Rattle.settings.specs.declared.status.Status.{Status}
use Rattle.agreement.specs.Rules.{Table}
use Rattle.table.specs.Places.{filled_at, records_at, records_of}
use Rattle.table.specs.Rules.{meets_phase, meets_status, meets_value}
use Rattle.table.specs.declared.place.Place.{Place}

-- a packet has room for so many records of support
abbrev pub most_support : ℕ
most_support = 35

-- the phase, the cabin and the value of the records at place k of a table
abbrev pub place_phase : Settings → ℕ → ℕ
place_phase s k = k / (3 * s.cabins) + 1

abbrev pub place_cabin : Settings → ℕ → ℕ
place_cabin s k = k % (3 * s.cabins) / 3

abbrev pub place_value : ℕ → ℕ
place_value k = k % 3

-- k is one of the numbers
abbrev pub is_among : List ℕ → ℕ → Bool
is_among [] k = false
is_among (x ∷ xs) k = k == x || is_among xs k

-- the records at some places, and no others
abbrev pub records_among : Settings → List ℕ → Table
records_among s ks = records_at s (is_among ks)

-- The places ks of the table t support a record for phase φ with value v and a status.
pub record Supports (s : Settings) (t : List Place) (φ v : ℕ) (status : Status) (ks : List ℕ) : Type 0 where
  -- at most 35
  pub few : length ks ≤ most_support
  -- each is a filled place, of one of the three phases before φ
  pub filled : (a : ℕ) → a < length ks → filled_at t (slice_index ks a) ≡ true
  pub recent : (a : ℕ) → a < length ks → (φ ≤ place_phase s (slice_index ks a) + 3) × (place_phase s (slice_index ks a) < φ)
  -- they rise: none stands twice, and phases rise
  pub rising : (a b : ℕ) → a < b → b < length ks → slice_index ks a < slice_index ks b
  -- each rule that the table meets, they meet alone
  pub backs_phase : meets_phase s (records_of s t) φ ≡ true → meets_phase s (records_among s ks) φ ≡ true
  pub backs_value : meets_value s (records_of s t) φ v ≡ true → meets_value s (records_among s ks) φ v ≡ true
  pub backs_status : meets_status s (records_of s t) φ v status ≡ true → meets_status s (records_among s ks) φ v status ≡ true
