-- What copying a record adds to the chosen ones, and how additions join.
use Rattle.std.proofs.Common.{◌≡◌, ℕ, ◌+◌, ◌-◌, ◌*◌, ◌/◌, ◌<◌, ◌≤◌, Bool, true, false, ◌&&◌, ltb, leb, List, length, get_or, set, Some, None, sym, refl, ap, ◌∙◌, subst, inl, inr, add_assoc, arith}
use Rattle.std.proofs.lemmas.Nat.{div-mul-add, mul-add-lt}
use Rattle.std.proofs.lemmas.List.{get_or_past, get_or-set_other, get_or-set_same}
use Rattle.std.proofs.lemmas.Bool.{and_from, and_parts, both_ways, cases_Bool, cases_eq, cases_lt, cond-true, leb-true, ltb-true}
use Rattle.settings.specs.declared.settings.Settings.{Settings}
use Rattle.agreement.specs.Books.{Within}
use Rattle.table.specs.Places.{filled_at, in_table, is_filled, place_answer, place_of, records_at, records_of}
use Rattle.table.specs.declared.place.Place.{Place}
use Rattle.table.specs.declared.place.Place.TheVariants.{Empty}
use Rattle.support.specs.Support.{place_phase}
use Rattle.support.specs.Passes.{Adds, copied, most_places}
use Rattle.support.proofs.Counting.{count_but_one}

-- a record is in the table, and at its place
pub record Found (s : Settings) (φ i v : ℕ) : Type 0 where
  pub first : 1 ≤ φ
  pub last : φ ≤ s.phases
  pub cabin : i < s.cabins
  pub value : v ≤ 2

pub found_from : (s : Settings) (picked : ℕ → Bool) (φ i v : ℕ) → records_at s picked φ i v ≡ true → Found s φ i v
unfolding records_at
found_from s picked φ i v e =
    let whole = and_parts (in_table s φ i v) (picked (place_of s φ i v)) e in
    let one = and_parts (leb 1 φ) (leb φ s.phases && (ltb i s.cabins && leb v 2)) whole.0 in
    let two = and_parts (leb φ s.phases) (ltb i s.cabins && leb v 2) one.1 in
    let three = and_parts (ltb i s.cabins) (leb v 2) two.1 in
    record { first = leb-true 1 φ one.0; last = leb-true φ s.phases two.0; cabin = ltb-true i s.cabins three.0; value = leb-true v 2 three.1 }

pub picked_from : (s : Settings) (picked : ℕ → Bool) (φ i v : ℕ) → records_at s picked φ i v ≡ true → picked (place_of s φ i v) ≡ true
unfolding records_at
picked_from s picked φ i v e = (and_parts (in_table s φ i v) (picked (place_of s φ i v)) e).1

-- records at other places are in the table where these are
pub records_moved : (s : Settings) (A B : ℕ → Bool) (φ i v : ℕ) → records_at s A φ i v ≡ true → B (place_of s φ i v) ≡ true → records_at s B φ i v ≡ true
unfolding records_at
records_moved s A B φ i v e here = and_from (in_table s φ i v) (B (place_of s φ i v)) (and_parts (in_table s φ i v) (A (place_of s φ i v)) e).0 here

-- a record's place is among the places of the largest hall, and in its own phase
pub place_within : (s : Settings) (φ i v : ℕ) → Found s φ i v → place_of s φ i v < most_places
place_within s φ i v found = omega (arith, mul-add-lt (φ - 1) (3 * s.cabins) (3 * i + v) 24 (omega arith) (omega arith))

pub place_phase_is : (s : Settings) (φ i v : ℕ) → Found s φ i v → place_phase s (place_of s φ i v) ≡ φ
place_phase_is s φ i v found =
    let row : ((φ - 1) * (3 * s.cabins) + (3 * i + v)) / (3 * s.cabins) ≡ φ - 1 = div-mul-add (φ - 1) (3 * s.cabins) (3 * i + v) (omega arith) in
    rw (add_assoc ((φ - 1) * (3 * s.cabins)) (3 * i) v, row) (omega arith)

set_filled : (m : List Place) (p : ℕ) (x : Place) → p < length m → is_filled x ≡ true → filled_at (set m p x) p ≡ true
set_filled m p x within e = rw (get_or-set_same m p x Empty within) e

set_others : (m : List Place) (p k : ℕ) (x : Place) → (k ≡ p → ⊥) → filled_at (set m p x) k ≡ filled_at m k
set_others m p k x other = ap is_filled (get_or-set_other m p k x Empty other)

module _ (s : Settings) (t m : List Place) (φ i v : ℕ) (size : length m ≡ most_places) (has : records_of s t φ i v ≡ true) where
  copied_filled : filled_at (copied s t m φ i v) (place_of s φ i v) ≡ true
  copied_filled =
      set_filled m (place_of s φ i v) (get_or t (place_of s φ i v) Empty)
      (omega (arith, place_within s φ i v (found_from s (filled_at t) φ i v has)))
      (picked_from s (filled_at t) φ i v has)

  -- the copy is there
  pub copied_has : records_of s (copied s t m φ i v) φ i v ≡ true
  copied_has = records_moved s (filled_at t) (filled_at (copied s t m φ i v)) φ i v has copied_filled

  -- what is new stands at one place
  copied_new : (P : ℕ → Type 0) → P (place_of s φ i v) → (k : ℕ) → filled_at (copied s t m φ i v) k ≡ true → filled_at m k ≡ false → P k
  copied_new P here k after before =
      elim (cases_eq k (place_of s φ i v)) [
        | inl e ↦ subst P (sym e) here
        | inr e ↦ absurd (both_ways (filled_at m k) before (sym (set_others m (place_of s φ i v) k (get_or t (place_of s φ i v) Empty) e) ∙ after))
      ]

  copied_keeps : (k : ℕ) → filled_at m k ≡ true → filled_at (copied s t m φ i v) k ≡ true
  copied_keeps k before =
      elim (cases_eq k (place_of s φ i v)) [
        | inl e ↦ subst (λ (x : ℕ). filled_at (copied s t m φ i v) x ≡ true) (sym e) copied_filled
        | inr e ↦ set_others m (place_of s φ i v) k (get_or t (place_of s φ i v) Empty) e ∙ before
      ]

  -- and it is one record more
  pub copied_adds : Adds s t φ φ 1 m (copied s t m φ i v)
  copied_adds = record {
    kept = copied_keeps;
    filled = copied_new (λ (k : ℕ). filled_at t k ≡ true) (picked_from s (filled_at t) φ i v has);
    recent =
        copied_new (λ (k : ℕ). (φ ≤ place_phase s k) × (place_phase s k ≤ φ))
        (let e = place_phase_is s φ i v (found_from s (filled_at t) φ i v has) in (omega arith, omega arith));
    few =
        count_but_one (filled_at m) (filled_at (copied s t m φ i v)) (place_of s φ i v) most_places
        (λ k other after. sym (set_others m (place_of s φ i v) k (get_or t (place_of s φ i v) Empty) other) ∙ after);
  }

-- nothing more
pub adds_none : (s : Settings) (t : List Place) (lo hi : ℕ) (m : List Place) → Adds s t lo hi 0 m m
adds_none s t lo hi m = record {
  kept = λ k e. e;
  filled = λ k after before. absurd (both_ways (filled_at m k) before after);
  recent = λ k after before. absurd (both_ways (filled_at m k) before after);
  few = omega arith;
}

-- one addition after another
pub adds_more : (s : Settings) (t : List Place) (lo hi b c : ℕ) (m m' m'' : List Place) → Adds s t lo hi b m m' → Adds s t lo hi c m' m'' → Adds s t lo hi (b + c) m m''
adds_more s t lo hi b c m m' m'' first second = record {
  kept = λ k e. second.kept k (first.kept k e);
  filled = λ k after before. elim (cases_Bool (filled_at m' k)) [ inl e ↦ first.filled k e before | inr e ↦ second.filled k after e ];
  recent = λ k after before. elim (cases_Bool (filled_at m' k)) [ inl e ↦ first.recent k e before | inr e ↦ second.recent k after e ];
  few = omega (arith, first.few, second.few);
}

-- an addition of fewer records and phases is one of more
pub adds_wider : (s : Settings) (t : List Place) (lo hi b lo' hi' b' : ℕ) (m m' : List Place) → lo' ≤ lo → hi ≤ hi' → b ≤ b' → Adds s t lo hi b m m' → Adds s t lo' hi' b' m m'
adds_wider s t lo hi b lo' hi' b' m m' low high more adds = record {
  kept = adds.kept;
  filled = adds.filled;
  recent = λ k after before. (omega (arith, (adds.recent k after before).0), omega (arith, (adds.recent k after before).1));
  few = omega (arith, adds.few);
}

-- the records are still there
pub adds_within : (s : Settings) (t : List Place) (lo hi b : ℕ) (m m' : List Place) → Adds s t lo hi b m m' → Within (records_of s m) (records_of s m')
adds_within s t lo hi b m m' adds φ i v e = records_moved s (filled_at m) (filled_at m') φ i v e (adds.kept (place_of s φ i v) (picked_from s (filled_at m) φ i v e))

-- a record that a table has is at a place, and the table is long enough
has_place : (s : Settings) (picked : ℕ → Bool) (φ i v : ℕ) → records_at s picked φ i v ≡ true → place_answer s φ i v ≡ Some (place_of s φ i v)
unfolding records_at
has_place s picked φ i v has = cond-true (in_table s φ i v) (Some (place_of s φ i v)) None (and_parts (in_table s φ i v) (picked (place_of s φ i v)) has).0

pub copy_nowhere : (s : Settings) (t : List Place) (φ i v : ℕ) → records_of s t φ i v ≡ true → None ≡ place_answer s φ i v → ⊥
copy_nowhere s t φ i v has nowhere =
    let there = has_place s (filled_at t) φ i v has in
    let z : ◌≡◌ {A = ℕ} 0 1 = cc in
    omega arith

-- so its place is the one that is found, is within the table and is among the places of the largest hall
pub copy_place : (s : Settings) (t : List Place) (φ i v place : ℕ) → records_of s t φ i v ≡ true → Some place ≡ place_answer s φ i v → place ≡ place_of s φ i v
copy_place s t φ i v place has is = let there = has_place s (filled_at t) φ i v has in cc

pub copy_within : (s : Settings) (t : List Place) (φ i v place : ℕ) → records_of s t φ i v ≡ true → Some place ≡ place_answer s φ i v → place < length t
copy_within s t φ i v place has is =
    let same = copy_place s t φ i v place has is in
    elim (cases_lt place (length t)) [
      | inl below ↦ below
      | inr past ↦
          let empty : filled_at t (place_of s φ i v) ≡ false = rw (get_or_past t (place_of s φ i v) Empty (omega arith)) refl in
          absurd (both_ways (filled_at t (place_of s φ i v)) empty (picked_from s (filled_at t) φ i v has))
    ]

pub copy_fits : (s : Settings) (t : List Place) (φ i v place : ℕ) → records_of s t φ i v ≡ true → Some place ≡ place_answer s φ i v → place < most_places
copy_fits s t φ i v place has is = omega (arith, copy_place s t φ i v place has is, place_within s φ i v (found_from s (filled_at t) φ i v has))
