-- What is asked of each pass that chooses records: tables as large as the largest hall's, of which every filled place is
-- chosen. Assumes nothing.
use Rattle.std.specs.Prelude.{◌≡◌, ℕ, ◌+◌, ◌-◌, ◌<◌, ◌≤◌, Bool, true, false, List, length, Some, None, Option, slice_index, slice_index_or, slice_set}
use Rattle.std.specs.List.{find, list_any}
use Rattle.settings.specs.declared.settings.Settings.{Settings}
use Rattle.agreement.specs.Books.{Within}
use Rattle.agreement.specs.Counting.{count}
use Rattle.agreement.specs.Rules.{Table, tally, turnout}
use Rattle.table.specs.Places.{filled_at, place_of, records_of}
use Rattle.table.specs.Rules.{hall_of}
use Rattle.table.specs.declared.place.Place.{Place}
use Rattle.table.specs.declared.place.Place.TheVariants.{Empty}
use Rattle.support.specs.Support.{is_among, place_phase}

-- the places of the largest hall: sixteen cabins, twenty-four phases, three values
abbrev pub most_places : ℕ
most_places = 1152

-- how many places are filled
abbrev pub chosen_count : List Place → ℕ
chosen_count m = count (filled_at m) most_places

-- the record for phase φ of cabin i with value v is copied
abbrev pub copied : Settings → List Place → List Place → ℕ → ℕ → ℕ → List Place
copied s t m φ i v = slice_set m (place_of s φ i v) (slice_index_or t (place_of s φ i v) Empty)

-- Out of m came m': at most b records of the table t more, of phases from lo to hi.
pub record Adds (s : Settings) (t : List Place) (lo hi b : ℕ) (m m' : List Place) : Type 0 where
  pub kept : (k : ℕ) → filled_at m k ≡ true → filled_at m' k ≡ true
  pub filled : (k : ℕ) → filled_at m' k ≡ true → filled_at m k ≡ false → filled_at t k ≡ true
  pub recent : (k : ℕ) → filled_at m' k ≡ true → filled_at m k ≡ false → (lo ≤ place_phase s k) × (place_phase s k ≤ hi)
  pub few : chosen_count m' ≤ chosen_count m + b

-- Where t has so many records for phase φ with value v, m has, and whatever has grown out of m.
abbrev pub EnoughFor : Settings → List Place → List Place → ℕ → ℕ → ℕ → Type 0
EnoughFor s t m φ v k = (u : Table) → Within (records_of s m) u → k ≤ tally s.cabins (records_of s t) φ v → k ≤ tally s.cabins u φ v

-- the same of cabins with any record for phase φ
abbrev pub EnoughIn : Settings → List Place → List Place → ℕ → ℕ → Type 0
EnoughIn s t m φ k = (u : Table) → Within (records_of s m) u → k ≤ turnout (hall_of s) (records_of s t) φ → k ≤ turnout (hall_of s) u φ

-- whether cabin j has a record for phase φ with one of the values vs
abbrev pub said : Table → ℕ → List ℕ → ℕ → Bool
said t φ vs j = list_any (t φ j) vs

-- the same of cabins with a record for phase φ with one of the values vs
abbrev pub EnoughOf : Settings → List Place → List Place → ℕ → List ℕ → ℕ → Type 0
EnoughOf s t m φ vs k = (u : Table) → Within (records_of s m) u → k ≤ count (said (records_of s t) φ vs) s.cabins → k ≤ count (said u φ vs) s.cabins

-- Where a rule holds of t, it holds of whatever has grown out of m.
abbrev pub Carries : Settings → List Place → List Place → (Table → Bool) → Type 0
Carries s t m rule = (u : Table) → Within (records_of s m) u → rule (records_of s t) ≡ true → rule u ≡ true

-- Out of m came m' for a rule of a record for phase φ: at most b records more, of the three phases before φ, and the rule
-- carries over.
pub record Serves (s : Settings) (t : List Place) (φ b : ℕ) (rule : Table → Bool) (m m' : List Place) : Type 0 where
  pub adds : Adds s t (φ - 3) (φ - 1) b m m'
  pub carries : Carries s t m' rule

-- how many records the value rule or the status rule may add: a quorum or two weak quorums; and the phase rule: a quorum
abbrev pub most_rule : ℕ
most_rule = 12

abbrev pub most_quorum : ℕ
most_quorum = 11

-- the first of the values vs with which cabin i has a record for phase φ
abbrev pub first_value : Table → ℕ → ℕ → List ℕ → Option ℕ
first_value t φ i vs = find (t φ i) vs

-- the same where nothing of that cabin is chosen yet
abbrev pub missing_from : Option ℕ → Option ℕ → Option ℕ
missing_from (Some v) r = None
missing_from None r = r

abbrev pub missing_value : Table → Table → ℕ → ℕ → List ℕ → Option ℕ
missing_value t m φ i vs = missing_from (first_value m φ i vs) (first_value t φ i vs)

-- The numbers of a set below n are listed, each once and in rising order.
pub record Listed (A : ℕ → Bool) (n : ℕ) (ks : List ℕ) : Type 0 where
  pub size : length ks ≡ count A n
  pub below : (a : ℕ) → a < length ks → slice_index ks a < n
  pub member : (a : ℕ) → a < length ks → A (slice_index ks a) ≡ true
  pub rising : (a b : ℕ) → a < b → b < length ks → slice_index ks a < slice_index ks b
  pub all : (k : ℕ) → k < n → A k ≡ true → is_among ks k ≡ true
