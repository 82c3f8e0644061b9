-- An accepted announce keeps what holds at a moment.
use Rattle.std.proofs.Common.{◌≡◌, ℕ, ◌≤◌, Bool, true, cond, ◌&&◌, ◌||◌, eqb, leb, List, length, take, Some, Ok, Option, sym, refl, ◌∙◌, subst, inl, inr, arith}
use Rattle.settings.proofs.Accepted.{needs_ok}
use Rattle.std.proofs.lemmas.Bool.{eq-eqb, leb-true, ne_eqb, or_right}
use Rattle.packets.specs.Format.{longest_packet}
use Rattle.table.specs.Places.{places_of}
use Rattle.table.specs.declared.place.Place.{Place}
use Rattle.moves.specs.Announcing.{Announced, Sealing, announce_answer, marked}
use Rattle.moves.specs.declared.state.State.{State}
use Rattle.runs.specs.Laws.{DecisionsStay}
use Rattle.runs.specs.Sessions.{Honest, Moment, Seat, Session, after_announce, decision_in, last_said}
use Rattle.runs.proofs.Cases.{each_cabin, said_cases}
use Rattle.runs.proofs.Saying.{last_says}
use Rattle.runs.proofs.Seats.{CabinSound, Sound, SoundAt, kept_in}

-- a cabin that announced had room, and is not past the last phase
announced_low : (c : State) (t : List Place) (sealer : Sealing) (buffer : List ℕ) → announce_answer c t sealer buffer ≡ Ok tt → (1440 ≤ length buffer) × (c.phase ≤ c.settings.phases)
announced_low c t sealer buffer answer =
    let size = needs_ok (eqb (length t) (places_of c.settings)) 5 _ tt answer in
    let owner = needs_ok (eqb sealer.owner c.number) 3 _ tt size.1 in
    let last = needs_ok (eqb sealer.last c.settings.phases) 6 _ tt owner.1 in
    let room = needs_ok (leb longest_packet (length buffer)) 8 _ tt last.1 in
    (leb-true _ _ room.0, leb-true _ _ (needs_ok (leb c.phase c.settings.phases) 9 _ tt room.1).0)

-- it has announced its phase and value: all else is as before
said_sound : (w : Session) (i : ℕ) (c : State) (t : List Place) (choice : Option ℕ) (said : ℕ → ℕ → Bool) (given : Option ℕ) (φ₀ v₀ : ℕ) → φ₀ ≡ c.phase → v₀ ≡ c.value → CabinSound w i (Some (record { state = c; table = t })) choice said given → CabinSound w i (Some (record { state = marked c; table = t })) choice (λ φ v. (eqb φ φ₀ && eqb v v₀) || said φ v) given
said_sound w i c t choice said given φ₀ v₀ phase value before = record {
  seated = let s = before.seated in record { settings_is = s.settings_is; branch_is = s.branch_is; number_is = s.number_is; size = s.size; stands = s.stands };
  filled = before.filled;
  one_voice = λ φ v u e h. elim (said_cases φ v φ₀ v₀ (said φ v) e) [
    | inl a ↦ elim (said_cases φ u φ₀ v₀ (said φ u) h) [ inl b ↦ omega (arith, a.1, b.1) | inr b ↦ omega (arith, a.1, now φ u a.0 b) ]
    | inr a ↦ elim (said_cases φ u φ₀ v₀ (said φ u) h) [ inl b ↦ omega (arith, b.1, now φ v b.0 a) | inr b ↦ before.one_voice φ v u a b ]
  ];
  so_far = λ φ v e. elim (said_cases φ v φ₀ v₀ (said φ v) e) [ inl a ↦ omega (arith, a.0) | inr a ↦ before.so_far φ v a ];
  present = λ v e. elim (said_cases c.phase v φ₀ v₀ (said c.phase v) e) [ inl a ↦ a.1 ∙ value | inr a ↦ before.present v a ];
  chosen = before.chosen;
  begins = before.begins;
  first = λ v e. elim (said_cases 1 v φ₀ v₀ (said 1 v) e) [
    | inl a ↦ let own = before.begins (omega (arith, a.0)) in subst (λ (u : ℕ). choice ≡ Some u) (sym (a.1 ∙ value)) own
    | inr a ↦ before.first v a
  ];
  rests = before.rests;
}
  where
    -- what it announced in its phase before was its value
    now : (φ u : ℕ) → φ ≡ φ₀ → said φ u ≡ true → u ≡ c.value
    now φ u e h = before.present u (subst (λ (ψ : ℕ). said ψ u ≡ true) (e ∙ phase) h)

-- cabin i, as its seat has it, announced
module _ (w : Session) (x : Moment) (i size : ℕ) (c : State) (t : List Place) (sealer : Sealing) (buffer after : List ℕ) (sound : Sound w x) (hi : Honest w i) (there : x.seat i ≡ Some (record { state = c; table = t })) where
  -- the moment after it
  abbrev next : Moment
  next = after_announce x i (marked c) t (take size after)

  -- what is to hold of cabin j, by whether it is i
  abbrev After : ℕ → Bool → Type 0
  After j same =
      CabinSound
      w
      j
      (cond same (Some (record { state = marked c; table = t })) (x.seat j))
      (x.choice j)
      (λ φ v. (same && (eqb φ (last_said (take size after)).phase && eqb v (last_said (take size after)).value)) || x.announced j φ v)
      (x.given j)

  -- its own record is what it has announced now
  pub announces_sound : announce_answer c t sealer buffer ≡ Ok tt → Announced c t sealer buffer after size → Sound w next
  announces_sound answer wrote =
      let low = announced_low c t sealer buffer answer in
      let says = last_says c t sealer buffer after size (omega (arith, low.1, c.settings.last)) low.0 wrote in
      let before = subst (λ (o : Option Seat). CabinSound w i o (x.choice i) (x.announced i) (x.given i)) there (sound.each i hi) in
      let here = said_sound w i c t (x.choice i) (x.announced i) (x.given i) (last_said (take size after)).phase (last_said (take size after)).value says.phase says.value before in
      let kept : (j φ v : ℕ) → Honest w j → kept_in w.settings (Some (record { state = c; table = t })) φ j v ≡ true → x.announced j φ v ≡ true = subst (λ (o : Option Seat). (j φ v : ℕ) → Honest w j → kept_in w.settings o φ j v ≡ true → x.announced j φ v ≡ true) there (sound.authentic i hi) in
      record {
        each = each_cabin (λ j. Honest w j → SoundAt w next j) i (λ _. subst (After i) (sym (eq-eqb i i refl)) here) (λ j other hj. subst (After j) (sym (ne_eqb j i other)) (sound.each j hj));
        authentic = each_cabin
            (λ j. Honest w j → (k φ u : ℕ) → Honest w k → kept_in w.settings (next.seat j) φ k u ≡ true → next.announced k φ u ≡ true)
            i
            (λ _ k φ u hk. rw (eq-eqb i i refl) (λ e. or_right _ _ (kept k φ u hk e)))
            (λ j other hj k φ u hk. rw (ne_eqb j i other) (λ e. or_right _ _ (sound.authentic j hj k φ u hk e)));
      }

  -- the mark is all that changed in the cabin
  pub announces_stay : DecisionsStay w x next
  announces_stay =
      each_cabin
      (λ j. (u : ℕ) → Honest w j → decision_in (x.seat j) ≡ Some u → decision_in (next.seat j) ≡ Some u)
      i
      (λ u _. rw (there, eq-eqb i i refl) (λ e. e))
      (λ j other u hj. rw (ne_eqb j i other) (λ e. e))
