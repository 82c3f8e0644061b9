-- A new record fills its own place of the table, and no other.
use Rattle.std.proofs.Common.{◌≡◌, ℕ, ◌+◌, ◌-◌, ◌*◌, ◌<◌, ◌≤◌, true, ltb, leb, ◌⊎◌, List, length, set, inl, inr, arith}
use Rattle.std.proofs.lemmas.Nat.{div-mul-add, mod-mul-add, mul-add-lt}
use Rattle.std.proofs.lemmas.List.{get_or-set_other, get_or-set_same}
use Rattle.std.proofs.lemmas.Bool.{and_from, and_parts, cases_eq, leb-true, ltb-true}
use Rattle.settings.specs.declared.settings.Settings.{Settings}
use Rattle.settings.specs.declared.status.Status.{Status}
use Rattle.agreement.specs.Books.{Within}
use Rattle.table.specs.Places.{filled_at, in_table, place_of, places_of, records_at, records_of}
use Rattle.table.specs.declared.place.Place.{Place}
use Rattle.table.specs.declared.place.Place.TheVariants.{Empty, Filled}

-- a phase, a cabin and a value that a table has a place for
record Inside (s : Settings) (φ j v : ℕ) : Type 0 where
  from : 1 ≤ φ
  to : φ ≤ s.phases
  cabin : j < s.cabins
  value : v ≤ 2

-- the tests, one by one
inside : (s : Settings) (φ j v : ℕ) → in_table s φ j v ≡ true → Inside s φ j v
inside s φ j v e =
    let a = and_parts (leb 1 φ) _ e in
    let b = and_parts (leb φ s.phases) _ a.1 in
    let d = and_parts (ltb j s.cabins) (leb v 2) b.1 in
    record { from = leb-true 1 φ a.0; to = leb-true φ s.phases b.0; cabin = ltb-true j s.cabins d.0; value = leb-true v 2 d.1 }

-- the place of a record is one of the table's: the phase counts rows of 3n places
place_below : (s : Settings) (φ j v : ℕ) → Inside s φ j v → place_of s φ j v < places_of s
place_below s φ j v i =
    let row = mul-add-lt (φ - 1) (3 * s.cabins) (3 * j + v) s.phases (omega arith) (omega arith) in
    omega (arith, row)

-- two records of one place are of one phase, cabin and value
pub record Same (φ j v ψ i w : ℕ) : Type 0 where
  pub phase : ψ ≡ φ
  pub cabin : i ≡ j
  pub value : w ≡ v

-- by division by the row's length: the row is the phase, the column 3j + v
one_place : (s : Settings) (φ j v ψ i w : ℕ) → Inside s φ j v → Inside s ψ i w → place_of s ψ i w ≡ place_of s φ j v → Same φ j v ψ i w
one_place s φ j v ψ i w a b e =
    let n = 3 * s.cabins in
    let same : (ψ - 1) * n + (3 * i + w) ≡ (φ - 1) * n + (3 * j + v) = omega arith in
    let row : ψ - 1 ≡ φ - 1 = cc (div-mul-add (ψ - 1) n (3 * i + w) (omega arith), div-mul-add (φ - 1) n (3 * j + v) (omega arith)) in
    let column : 3 * i + w ≡ 3 * j + v = cc (mod-mul-add (ψ - 1) n (3 * i + w) (omega arith), mod-mul-add (φ - 1) n (3 * j + v) (omega arith)) in
    record { phase = omega arith; cabin = omega arith; value = omega arith }

-- what filling the place of a record does to the records of a table
pub record Fills (s : Settings) (t t' : List Place) (φ j v : ℕ) : Type 0 where
  pub grown : Within (records_of s t) (records_of s t')
  pub new : (ψ i w : ℕ) → records_of s t' ψ i w ≡ true → (records_of s t ψ i w ≡ true) ⊎ Same φ j v ψ i w

-- a record of a table: it has a place, which is filled
record_parts : (s : Settings) (t : List Place) (φ j v : ℕ) → records_of s t φ j v ≡ true → (in_table s φ j v ≡ true) × (filled_at t (place_of s φ j v) ≡ true)
unfolding records_at
record_parts s t φ j v e = and_parts (in_table s φ j v) (filled_at t (place_of s φ j v)) e

record_from : (s : Settings) (t : List Place) (φ j v : ℕ) → in_table s φ j v ≡ true → filled_at t (place_of s φ j v) ≡ true → records_of s t φ j v ≡ true
unfolding records_at
record_from s t φ j v a b = and_from (in_table s φ j v) (filled_at t (place_of s φ j v)) a b

-- after a place is filled, every place that was filled still is
still_filled : (t : List Place) (k m : ℕ) (status : Status) (word : List ℕ) → k < length t → filled_at t m ≡ true → filled_at (set t k (Filled status word)) m ≡ true
still_filled t k m status word below e =
    elim (cases_eq m k) [
      | inl same ↦ rw (same, get_or-set_same t k (Filled status word) Empty below)
      | inr other ↦ rw (get_or-set_other t k m (Filled status word) Empty other) e
    ]

-- a table has one place for each record, so filling one adds that record alone
pub fills : (s : Settings) (t : List Place) (φ j v : ℕ) (status : Status) (word : List ℕ) → length t ≡ places_of s → in_table s φ j v ≡ true → Fills s t (set t (place_of s φ j v) (Filled status word)) φ j v
fills s t φ j v status word size e = record {
  grown = λ ψ i w old.
      let a = record_parts s t ψ i w old in
      let low = place_below s φ j v (inside s φ j v e) in
      record_from s (set t (place_of s φ j v) (Filled status word)) ψ i w a.0 (still_filled t (place_of s φ j v) (place_of s ψ i w) status word (omega arith) a.1);
  new = λ ψ i w now_there.
      let a = record_parts s (set t (place_of s φ j v) (Filled status word)) ψ i w now_there in
      elim (cases_eq (place_of s ψ i w) (place_of s φ j v)) [
        | inl same ↦ inr (one_place s φ j v ψ i w (inside s φ j v e) (inside s ψ i w a.0) same)
        | inr other ↦ inl (record_from s t ψ i w a.0 (rw (get_or-set_other t (place_of s φ j v) (place_of s ψ i w) (Filled status word) Empty other) at a.1))
      ];
}
