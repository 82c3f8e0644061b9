-- An accepted hear keeps what holds at a moment: first what the packet left in the table, then the move.
use Rattle.std.proofs.Common.{◌≡◌, ℕ, ◌<◌, Bool, true, List, Some, None, Option, sym, refl, ap, ◌∙◌, subst, inl, inr, arith}
use Rattle.std.proofs.lemmas.Bool.{eq-eqb, ne_eqb}
use Rattle.settings.specs.declared.settings.Settings.{Settings}
use Rattle.agreement.specs.Rules.{Hall, Table, is_valid}
use Rattle.agreement.specs.Books.{Within}
use Rattle.agreement.specs.History.{DecideQuorum}
use Rattle.agreement.specs.Status.{last_decide}
use Rattle.agreement.proofs.Growing.{decide_quorum_more, filled_more, once_more, split_more}
use Rattle.coins.specs.Bits.{are_bits}
use Rattle.packets.specs.Packets.{places_in}
use Rattle.packets.specs.declared.record.Fields.{Fields}
use Rattle.table.specs.Places.{places_of, records_of}
use Rattle.table.specs.Rules.{hall_of}
use Rattle.table.specs.declared.place.Place.{Place}
use Rattle.moves.specs.Hearing.{heard, heard_moved}
use Rattle.moves.specs.Judging.{Check}
use Rattle.moves.specs.Moving.{moved}
use Rattle.moves.specs.declared.state.State.{State}
use Rattle.runs.specs.Laws.{DecisionsStay}
use Rattle.runs.specs.Runs.{Authentic}
use Rattle.runs.specs.Sessions.{Fair, Honest, Moment, Seat, Session, after_hear, decision_in, given_by, put}
use Rattle.runs.proofs.Cases.{each_cabin, same_some}
use Rattle.runs.proofs.Folding.{heard_well}
use Rattle.runs.proofs.Moving.{MovesWell, moves_well}
use Rattle.runs.proofs.Seats.{CabinSound, GoesWell, SeatedIn, Sound, SoundAt, history, history_laws, kept_in}
use Rattle.runs.proofs.Sound.{HeardWell, Stands}

-- a cabin stands as soundly when its table has grown
stands_more : (hall : Hall) (a b : Table) (phase value : ℕ) (decided : Bool) (decision : Option ℕ) → Within a b → Stands hall a phase value decided decision → Stands hall b phase value decided decision
stands_more hall a b phase value decided decision within stands = record {
  begun = stands.begun;
  valid = once_more a b (λ t. is_valid hall t phase value) within stands.valid;
  rests = λ v e. let r = stands.rests v e in (r.0, r.1, decide_quorum_more hall a b r.0 v within r.2);
  backed = λ e. let r = stands.backed e in (r.0, r.1, decide_quorum_more hall a b r.0 value within r.2);
  held = stands.held;
  undecided = λ e far. elim (stands.undecided e far) [
    | inl split ↦ inl (split_more hall a b (last_decide phase) within split)
    | inr s ↦ inr (s.0, s.1, s.2, once_more a b (λ t. hall.book.undecided t s.0) within s.3)
  ];
}

-- the session of a cabin c
abbrev pub session_of : State → (ℕ → Bool) → Session
session_of c honest = record { settings = c.settings; branch = c.branch; honest = honest }

-- the phase of a decision that was given rests on a quorum: an old one, or that of the decision held now
given_rests : (hall : Hall) (ever : Table) (old new : Option ℕ) (phase : ℕ) (before : Option ℕ)
    → ((p : ℕ) → before ≡ Some p → (d : ℕ) × (v : ℕ) × (d < p) × DecideQuorum hall ever d v)
    → ((v : ℕ) → new ≡ Some v → (d : ℕ) × (d < phase) × DecideQuorum hall ever d v)
    → (p : ℕ) → given_by old new phase before ≡ Some p → (d : ℕ) × (v : ℕ) × (d < p) × DecideQuorum hall ever d v
given_rests hall ever None (Some v) phase before earlier now p e =
    let r = now v refl in
    (r.0, v, omega (arith, same_some phase p e, r.1), r.2)
given_rests hall ever None None phase before earlier now p e = earlier p e
given_rests hall ever (Some u) new phase before earlier now p e = earlier p e

-- The cabin c, which is i, has heard a packet p that left the table t'. The session is that of c.
module _ (c : State) (honest : ℕ → Bool) (x : Moment) (i : ℕ) (t t' : List Place) (p : List ℕ) (check : Check) (ahead : Option Fields) (sound : Sound (session_of c honest) x) (hi : honest i ≡ true) (there : x.seat i ≡ Some (record { state = c; table = t })) (well : HeardWell check c t t' p ahead) (authentic : Authentic (session_of c honest) x c p check) where
  -- that session
  abbrev w : Session
  w = session_of c honest

  -- what held of it before
  before : CabinSound w i (Some (record { state = c; table = t })) (x.choice i) (x.announced i) (x.given i)
  before = subst (λ (o : Option Seat). CabinSound w i o (x.choice i) (x.announced i) (x.given i)) there (sound.each i hi)

  -- with the table that has grown it is sound
  grown_sound : CabinSound w i (Some (record { state = c; table = t' })) (x.choice i) (x.announced i) (x.given i)
  grown_sound =
      let hall : Hall = hall_of c.settings in
      let a : Table = records_of c.settings t in
      let b : Table = records_of c.settings t' in
      record {
        seated = let s = before.seated in record { settings_is = s.settings_is; branch_is = s.branch_is; number_is = s.number_is; size = well.size ∙ s.size; stands = stands_more hall a b _ _ _ _ well.grown s.stands };
        filled = filled_more hall a b before.filled well.grown (λ φ j v e. elim (well.new φ j v e) [ inl old ↦ inl old | inr new ↦ inr new.1 ]);
        one_voice = before.one_voice;
        so_far = before.so_far;
        present = before.present;
        chosen = before.chosen;
        begins = before.begins;
        first = before.first;
        rests = λ q e. let r = before.rests q e in (r.0, r.1, r.2, decide_quorum_more hall a b r.0 r.1 well.grown r.3);
      }

  -- what it has kept in the name of an honest cabin, that one announced
  kept_announced : (j φ v : ℕ) → Honest w j → records_of c.settings t' φ j v ≡ true → x.announced j φ v ≡ true
  kept_announced j φ v hj e =
      elim (well.new φ j v e) [
        | inl old ↦ subst (λ (o : Option Seat). kept_in c.settings o φ j v ≡ true → x.announced j φ v ≡ true) there (sound.authentic i hi j φ v hj) old
        | inr new ↦
            let q = new.0 in
            let said = authentic q.place q.shown q.reads q.passes (subst (λ (k : ℕ). honest k ≡ true) (sym q.cabin_is) hj) in
            rw (q.cabin_is, q.phase_is, q.value_is) at said
      ]

  -- the moment at which it is d with that table
  abbrev seated_as : State → Option ℕ → Moment
  seated_as d given = record { seat = put x.seat i (Some (record { state = d; table = t' })); choice = x.choice; announced = x.announced; given = put x.given i given }

  -- is sound where the cabin is
  seated_sound : (d : State) (given : Option ℕ) → CabinSound w i (Some (record { state = d; table = t' })) (x.choice i) (x.announced i) given → Sound w (seated_as d given)
  seated_sound d given here = record {
    each = each_cabin (λ j. Honest w j → SoundAt w (seated_as d given) j) i (λ _. rw (eq-eqb i i refl) here) (λ j other hj. rw (ne_eqb j i other) (sound.each j hj));
    authentic = each_cabin
        (λ j. Honest w j → (k φ u : ℕ) → Honest w k → kept_in c.settings ((seated_as d given).seat j) φ k u ≡ true → x.announced k φ u ≡ true)
        i
        (λ _. rw (eq-eqb i i refl) kept_announced)
        (λ j other hj. rw (ne_eqb j i other) (sound.authentic j hj));
  }

  -- it moved, and is d
  moved_sound : (d : State) → MovesWell (records_of c.settings t') c d → CabinSound w i (Some (record { state = d; table = t' })) (x.choice i) (x.announced i) (given_by c.decision d.decision d.phase (x.given i))
  moved_sound d moves =
      let here = grown_sound in
      let begun = here.seated.stands.begun in
      record {
        seated = record { settings_is = moves.same_settings; branch_is = moves.same_branch; number_is = moves.same_number ∙ here.seated.number_is; size = here.seated.size; stands = moves.stands };
        filled = here.filled;
        one_voice = here.one_voice;
        so_far = λ φ v e. omega (arith, here.so_far φ v e, moves.forward);
        present = λ v e.
            let same : d.phase ≡ c.phase = omega (arith, here.so_far d.phase v e, moves.forward) in
            here.present v (subst (λ (φ : ℕ). x.announced i φ v ≡ true) same e) ∙ sym (moves.same_value same);
        chosen = λ _. here.chosen begun;
        begins = λ e.
            let same : d.phase ≡ c.phase = omega (arith, begun, moves.forward) in
            subst (λ (v : ℕ). x.choice i ≡ Some v) (sym (moves.same_value same)) (here.begins (omega arith));
        first = here.first;
        rests = given_rests (hall_of c.settings) (records_of c.settings t') c.decision d.decision d.phase (x.given i) here.rests moves.stands.rests;
      }

  -- the move is sound, since the history with the table that has grown keeps the laws
  moving : (bits : List ℕ) → Fair w → are_bits bits ≡ true → MovesWell (records_of c.settings t') c (moved (records_of c.settings t') ahead (record { state = c; bits = bits })).state
  moving bits fair each =
      let m : Moment = seated_as c (x.given i) in
      let laws = history_laws w m (seated_sound c (x.given i) grown_sound) fair in
      moves_well (history w m) i (records_of c.settings t') c ahead bits laws hi (rw (eq-eqb i i refl) refl) grown_sound.seated.stands well.ahead_backed each

  -- the moment after the hearing
  abbrev next : List ℕ → Moment
  next bits = after_hear x i c (moved (records_of c.settings t') ahead (record { state = c; bits = bits })).state t'

  -- is sound
  pub heard_sound : (bits : List ℕ) → Fair w → are_bits bits ≡ true → Sound w (next bits)
  heard_sound bits fair each = seated_sound _ _ (moved_sound _ (moving bits fair each))

  -- and the move fills a decision only where there is none
  pub heard_stay : (bits : List ℕ) → Fair w → are_bits bits ≡ true → DecisionsStay w x (next bits)
  heard_stay bits fair each =
      each_cabin
      (λ j. (u : ℕ) → Honest w j → decision_in (x.seat j) ≡ Some u → decision_in ((next bits).seat j) ≡ Some u)
      i
      (λ u _. rw (there, eq-eqb i i refl) ((moving bits fair each).stays u))
      (λ j other u hj. rw (ne_eqb j i other) (λ e. e))

-- a session of which c is a cabin is that of c
same_session : (w : Session) (c : State) → c.settings ≡ w.settings → c.branch ≡ w.branch → session_of c w.honest ≡ w
same_session w c settings branch =
    ap (λ (s : Settings). record { settings = s; branch = c.branch; honest = w.honest }) settings ∙ ap (λ (b : ℕ). record { settings = w.settings; branch = b; honest = w.honest }) branch

-- an accepted hear of a cabin as its seat has it
pub hears_well : (w : Session) (x : Moment) (i : ℕ) (seat : Seat) (p bits : List ℕ) (check : Check) → Fair w → Sound w x → Honest w i → x.seat i ≡ Some seat → are_bits bits ≡ true → Authentic w x seat.state p check → GoesWell w x (after_hear x i seat.state (heard_moved check seat.state seat.table p bits).state (heard check seat.state seat.table p).table)
hears_well w x i seat p bits check fair sound hi there each authentic =
    let c : State = seat.state in
    let t : List Place = seat.table in
    let seated = subst (λ (o : Option Seat). SeatedIn w i o) there (sound.each i hi).seated in
    let well = heard_well check c t p (places_in p) (seated.size ∙ ap places_of (sym seated.settings_is)) in
    subst
    (λ (u : Session). Fair u → Sound u x → Honest u i → Authentic u x c p check → GoesWell u x (after_hear x i c (heard_moved check c t p bits).state (heard check c t p).table))
    (same_session w c seated.settings_is seated.branch_is)
    (λ f s h a. record { sound = heard_sound c w.honest x i t _ p check _ s h there well a bits f each; stay = heard_stay c w.honest x i t _ p check _ s h there well a bits f each })
    fair
    sound
    hi
    authentic
