-- The chosen records are a support.
use Rattle.std.proofs.Common.{◌≡◌, ℕ, ◌+◌, ◌-◌, ◌≤◌, true, false, List, get_or, replicate, refl, inl, inr, arith}
use Rattle.std.proofs.lemmas.List.{get_or_past, get_or-replicate, length-replicate}
use Rattle.std.proofs.lemmas.Bool.{both_ways, cases_lt}
use Rattle.settings.specs.declared.settings.Settings.{Settings}
use Rattle.settings.specs.declared.status.Status.{Status}
use Rattle.agreement.specs.Books.{Within}
use Rattle.agreement.proofs.Counting.{count_none, count_within}
use Rattle.table.specs.Places.{filled_at, place_of, records_of}
use Rattle.table.specs.Rules.{meets_phase, meets_status, meets_value}
use Rattle.table.specs.declared.place.Place.{Place}
use Rattle.table.specs.declared.place.Place.TheVariants.{Empty}
use Rattle.support.specs.Support.{Supports, is_among, most_support, place_phase, records_among}
use Rattle.support.specs.Passes.{Carries, Listed, Serves, chosen_count, most_places, most_quorum, most_rule}
use Rattle.support.proofs.Copying.{adds_more, adds_within, found_from, picked_from, place_within, records_moved}
use Rattle.support.proofs.Serving.{carries_more}

-- before the choice nothing is chosen
none_filled : (m : List Place) (k : ℕ) → m ≡ replicate most_places Empty → filled_at m k ≡ false
none_filled m k empty =
    elim (cases_lt k most_places) [
      | inl below ↦ rw (empty, get_or-replicate most_places k Empty Empty below) refl
      | inr past ↦ rw (empty, get_or_past (replicate most_places Empty) k Empty (omega (arith, length-replicate most_places Empty))) refl
    ]

none_chosen : (m : List Place) → m ≡ replicate most_places Empty → chosen_count m ≤ 0
none_chosen m empty =
    omega (arith, count_none most_places, count_within (filled_at m) (λ _. false) most_places (λ k below e. absurd (both_ways (filled_at m k) (none_filled m k empty) e)))

-- the three passes, from nothing
pub record Chosen (s : Settings) (t : List Place) (φ v : ℕ) (σ : Status) (m : List Place) : Type 0 where
  pub filled : (k : ℕ) → filled_at m k ≡ true → filled_at t k ≡ true
  pub recent : (k : ℕ) → filled_at m k ≡ true → (φ - 3 ≤ place_phase s k) × (place_phase s k ≤ φ - 1)
  pub few : chosen_count m ≤ most_support
  pub phase : Carries s t m (λ u. meets_phase s u φ)
  pub value : Carries s t m (λ u. meets_value s u φ v)
  pub status : Carries s t m (λ u. meets_status s u φ v σ)

pub chosen_from : (s : Settings) (t : List Place) (φ v : ℕ) (σ : Status) (m m₁ m₂ m₃ : List Place) → m ≡ replicate most_places Empty → Serves s t φ most_rule (λ u. meets_value s u φ v) m m₁ → Serves s t φ most_rule (λ u. meets_status s u φ v σ) m₁ m₂ → Serves s t φ most_quorum (λ u. meets_phase s u φ) m₂ m₃ → Chosen s t φ v σ m₃
chosen_from s t φ v σ m m₁ m₂ m₃ empty first second third =
    let later = adds_more s t (φ - 3) (φ - 1) most_rule most_quorum m₁ m₂ m₃ second.adds third.adds in
    let all = adds_more s t (φ - 3) (φ - 1) most_rule (most_rule + most_quorum) m m₁ m₃ first.adds later in
    record {
      filled = λ k e. all.filled k e (none_filled m k empty);
      recent = λ k e. all.recent k e (none_filled m k empty);
      few = omega (arith, all.few, none_chosen m empty);
      phase = third.carries;
      value = carries_more s t m₁ m₃ (λ u. meets_value s u φ v) (adds_within s t (φ - 3) (φ - 1) (most_rule + most_quorum) m₁ m₃ later) first.carries;
      status = carries_more s t m₂ m₃ (λ u. meets_status s u φ v σ) (adds_within s t (φ - 3) (φ - 1) most_quorum m₂ m₃ third.adds) second.carries;
    }

-- the records at the listed places
listed_within : (s : Settings) (m : List Place) (ks : List ℕ) → Listed (filled_at m) most_places ks → Within (records_of s m) (records_among s ks)
listed_within s m ks listed φ i v e =
    records_moved s (filled_at m) (is_among ks) φ i v e
    (listed.all (place_of s φ i v) (place_within s φ i v (found_from s (filled_at m) φ i v e)) (picked_from s (filled_at m) φ i v e))

pub supports_from : (s : Settings) (t : List Place) (φ v : ℕ) (σ : Status) (m : List Place) (ks : List ℕ) → Chosen s t φ v σ m → Listed (filled_at m) most_places ks → Supports s t φ v σ ks
supports_from s t φ v σ m ks chosen listed =
    let within = listed_within s m ks listed in
    record {
      few = omega (arith, listed.size, chosen.few);
      filled = λ a below. chosen.filled (get_or ks a 0) (listed.member a below);
      recent = λ a below. let span = chosen.recent (get_or ks a 0) (listed.member a below) in (omega (arith, span.0), omega (arith, span.1));
      rising = listed.rising;
      backs_phase = chosen.phase (records_among s ks) within;
      backs_value = chosen.value (records_among s ks) within;
      backs_status = chosen.status (records_among s ks) within;
    }
