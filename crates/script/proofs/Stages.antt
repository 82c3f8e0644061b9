-- What a turn of one seat leaves of the seats of a hall.
use Rattle.std.proofs.Common.{◌≡◌, ℕ, ◌+◌, ◌<◌, ◌≤◌, Bool, true, false, ltb, List, [], ◌∷◌, ◌++◌, map, length, get_or, set, is_some, Some, None, Err, Option, sym, refl, ap, ◌∙◌, arith}
use Rattle.std.proofs.lemmas.List.FromFn.{map-range_with_len_more}
use Rattle.std.proofs.lemmas.List.{map-set, map_push, get_or-map, get_or_past, get_or-set_same, length-map, set-get_or, set_past}
use Rattle.std.proofs.lemmas.Bool.{lt-ltb, le-ltb, true≢false}
use Rattle.std.specs.List.{range_with_len}
use Rattle.settings.specs.Refusals.{needs}
use Rattle.script.specs.Answers.{Reply}
use Rattle.script.specs.Stage.{Turn, Turned, refuses}

-- a seat that is not open has no cabin
pub not_open : {C : Type 0} (o : Option C) → is_some o ≡ false → o ≡ None
not_open None e = refl
not_open (Some x) e = absurd (true≢false e)

refused_anyway : (inside : Bool) → ◌≡◌ {A = Reply} (Err 19) (needs inside 19 (Err 19))
refused_anyway true = refl
refused_anyway false = refl

-- a step that is refused with 19, whether or not there is such a seat
pub stays : {V : Type 0} (closed : V) (i : ℕ) (stage : List V) → Turned i (refuses 19 (get_or stage i closed)) (Err 19) stage stage
stays closed i stage = record {
  replied = refused_anyway (ltb i (length stage));
  left = sym (set-get_or stage i closed);
}

-- S is a seat, V what the rules see of it, and `closed` stands for a seat that there is not
module _ {S V : Type 0} (view : S → V) (closed : V) where
  -- the seat x that was found at j is the one that the rules see at i
  pub seat_at_found : (xs : List S) (j i : ℕ) (x : S) → j ≡ i → j < length xs → x ≡ get_or xs j x → get_or (map view xs) i closed ≡ view x
  seat_at_found xs j i x same within item =
      rw (← same) (get_or-map view xs j x closed within ∙ ap view (sym item))

  -- past the last seat the rules see one that is not open
  pub seat_at_past : (xs : List S) (j i : ℕ) → j ≡ i → length xs ≤ j → get_or (map view xs) i closed ≡ closed
  seat_at_past xs j i same past = get_or_past (map view xs) i closed (omega (arith, length-map xs view))

  -- the seat y that was put in at j
  pub seat_at_put : (xs : List S) (j i : ℕ) (y : S) → j ≡ i → j < length xs → get_or (map view (set xs j y)) i closed ≡ view y
  seat_at_put xs j i y same within =
      rw (map-set view xs j y, same) (get_or-set_same (map view xs) i (view y) closed (omega (arith, length-map xs view)))

  -- one seat more
  pub seats_more : (first : ℕ → V) (xs ys : List S) (x : S) (n : ℕ) → map view xs ≡ map first (range_with_len 0 n) → view x ≡ first n → ys ≡ xs ++ x ∷ [] → map view ys ≡ map first (range_with_len 0 (n + 1))
  seats_more first xs ys x n before here push =
      rw (push, map_push, before, here) (sym (map-range_with_len_more first 0 n n (omega arith)))

  -- a turn of the seat x, which then is y
  pub turned_at : (xs : List S) (j i : ℕ) (turn : V → Turn V) (x y : S) (reply : Reply) → j ≡ i → j < length xs → x ≡ get_or xs j x → reply ≡ (turn (view x)).reply → view y ≡ (turn (view x)).seat → Turned i (turn (get_or (map view xs) i closed)) reply (map view xs) (map view (set xs j y))
  turned_at xs j i turn x y reply same within item said left =
      let found = seat_at_found xs j i x same within item in
      let inside : ltb i (length (map view xs)) ≡ true = lt-ltb i (length (map view xs)) (omega (arith, length-map xs view)) in
      record { replied = rw (inside, found) said; left = map-set view xs j y ∙ rw (same, found, left) }

  -- and where there is no such seat
  pub turned_past : (xs : List S) (j i : ℕ) (turn : V → Turn V) → j ≡ i → length xs ≤ j → Turned i (turn (get_or (map view xs) i closed)) (Err 19) (map view xs) (map view xs)
  turned_past xs j i turn same past =
      let beyond : length (map view xs) ≤ i = omega (arith, length-map xs view) in
      let outside : ltb i (length (map view xs)) ≡ false = le-ltb i (length (map view xs)) beyond in
      record { replied = rw outside refl; left = sym (set_past (map view xs) i _ beyond) }
