-- An accepted open keeps what holds at a moment.
use Rattle.std.proofs.Common.{◌≡◌, ℕ, ◌<◌, ◌≤◌, true, false, eqb, ltb, leb, List, length, get_or, replicate, Some, None, Ok, Option, refl, ◌∙◌, subst, inl, inr, arith}
use Rattle.std.proofs.lemmas.List.{get_or_past, get_or-replicate, length-replicate}
use Rattle.std.proofs.lemmas.Bool.{and_parts, cases_lt, eq-eqb, eqb-true, false≢true, leb-true, lt-ltb, ne_eqb}
use Rattle.settings.proofs.Accepted.{needs_ok}
use Rattle.settings.specs.declared.settings.Settings.{Settings}
use Rattle.agreement.specs.Rules.{Hall, Table, is_valid}
use Rattle.agreement.specs.TwoWay.{two_way}
use Rattle.agreement.proofs.Growing.{decide_quorum_more}
use Rattle.table.specs.Places.{emptied, filled_at, in_table, is_filled, place_of, places_of, records_at, records_of}
use Rattle.table.specs.Rules.{hall_of}
use Rattle.table.specs.declared.place.Place.{Place}
use Rattle.table.specs.declared.place.Place.TheVariants.{Empty}
use Rattle.moves.specs.Opening.{open_answer, opened}
use Rattle.moves.specs.declared.state.State.{State}
use Rattle.runs.specs.Laws.{DecisionsStay}
use Rattle.runs.specs.Sessions.{Honest, Moment, Seat, Session, after_open, decision_in}
use Rattle.runs.proofs.Cases.{each_cabin, none_some, same_ok}
use Rattle.runs.proofs.Seats.{CabinSound, Sound, SoundAt, kept_in}
use Rattle.runs.proofs.Sound.{Stands}

-- every place of an emptied table is empty
empty_at : (n k : ℕ) → get_or (replicate n Empty) k Empty ≡ Empty
empty_at n k =
    elim (cases_lt k n) [
      | inl below ↦ get_or-replicate n k Empty Empty below
      | inr past ↦ get_or_past (replicate n Empty) k Empty (omega (arith, length-replicate n Empty))
    ]

-- so it has no record
pub none_kept : (s : Settings) (t : List Place) (φ j v : ℕ) → records_of s (emptied t) φ j v ≡ true → ⊥
unfolding records_at
none_kept s t φ j v e =
    let filled = (and_parts (in_table s φ j v) (filled_at (emptied t) (place_of s φ j v)) e).1 in
    false≢true (subst (λ (x : Place). is_filled x ≡ true) (empty_at (length t) (place_of s φ j v)) filled)

-- in phase 1 any course is valid
course_valid : (hall : Hall) (t : Table) (v : ℕ) → v < hall.book.courses → is_valid hall t 1 v ≡ true
unfolding is_valid
course_valid hall t v course = rw (lt-ltb v hall.book.courses course) refl

-- a cabin that was just opened stands soundly
opened_stands : (s : Settings) (t : Table) (v : ℕ) → v ≤ 1 → Stands (hall_of s) t 1 v false None
unfolding two_way
opened_stands s t v small = record {
  begun = omega arith;
  valid = (t, (λ φ j u e. e), course_valid (hall_of s) t v (omega arith));
  rests = λ u e. absurd (none_some u e);
  backed = λ e. absurd (false≢true e);
  held = λ e. absurd (false≢true e);
  undecided = λ e far. absurd (omega arith);
}

-- cabin i, not open before, was opened with choice v
module _ (w : Session) (x : Moment) (i v : ℕ) (t : List Place) (sound : Sound w x) (hi : Honest w i) (closed : x.seat i ≡ None) where
  -- its seat
  abbrev new : Seat
  new = record { state = opened w.settings i w.branch v; table = emptied t }

  -- it has kept and announced nothing
  opened_sound : v ≤ 1 → length t ≡ places_of w.settings → CabinSound w i (Some new) (Some v) (x.announced i) (x.given i)
  opened_sound small size =
      let before : CabinSound w i None (x.choice i) (x.announced i) (x.given i) = subst (λ (o : Option Seat). CabinSound w i o (x.choice i) (x.announced i) (x.given i)) closed (sound.each i hi) in
      record {
        seated = record { settings_is = refl; branch_is = refl; number_is = refl; size = length-replicate (length t) Empty ∙ size; stands = opened_stands w.settings _ v small };
        filled = record { valid = λ φ j u e. absurd (none_kept w.settings t φ j u e) };
        one_voice = before.one_voice;
        so_far = λ φ u e. omega (arith, before.so_far φ u e);
        present = λ u e. absurd (omega (arith, before.so_far 1 u e));
        chosen = λ begun. (v, small, refl);
        begins = λ e. refl;
        first = λ u e. absurd (omega (arith, before.so_far 1 u e));
        rests = λ p e. let r = before.rests p e in (r.0, r.1, r.2, decide_quorum_more (hall_of w.settings) _ _ r.0 r.1 (λ φ j u h. absurd (false≢true h)) r.3);
      }

  -- the moment after it
  pub opens_sound : (c : State) → open_answer w.settings i w.branch v t ≡ Ok c → Sound w (after_open x i v c (emptied t))
  opens_sound c answer =
      let number = needs_ok (ltb i w.settings.cabins) 3 _ c answer in
      let choice = needs_ok (leb v 1) 4 _ c number.1 in
      let size = needs_ok (eqb (length t) (places_of w.settings)) 5 _ c choice.1 in
      let fresh = opened_sound (leb-true v 1 choice.0) (eqb-true (length t) (places_of w.settings) size.0) in
      let here : CabinSound w i (Some (record { state = c; table = emptied t })) (Some v) (x.announced i) (x.given i) = subst (λ (d : State). CabinSound w i (Some (record { state = d; table = emptied t })) (Some v) (x.announced i) (x.given i)) (same_ok (opened w.settings i w.branch v) c size.1) fresh in
      record {
        each = each_cabin (λ j. Honest w j → SoundAt w (after_open x i v c (emptied t)) j) i (λ _. rw (eq-eqb i i refl) here) (λ j other hj. rw (ne_eqb j i other) (sound.each j hj));
        authentic = each_cabin (λ j. Honest w j → (k φ u : ℕ) → Honest w k → kept_in w.settings ((after_open x i v c (emptied t)).seat j) φ k u ≡ true → x.announced k φ u ≡ true) i (λ _. rw (eq-eqb i i refl) (λ k φ u hk e. absurd (none_kept w.settings t φ k u e))) (λ j other hj. rw (ne_eqb j i other) (sound.authentic j hj));
      }

  -- it held no decision before
  pub opens_stay : (c : State) → DecisionsStay w x (after_open x i v c (emptied t))
  opens_stay c =
      each_cabin
      (λ j. (u : ℕ) → Honest w j → decision_in (x.seat j) ≡ Some u → decision_in ((after_open x i v c (emptied t)).seat j) ≡ Some u)
      i
      (λ u _. rw closed (λ e. absurd (none_some u e)))
      (λ j other u hj. rw (ne_eqb j i other) (λ e. e))
