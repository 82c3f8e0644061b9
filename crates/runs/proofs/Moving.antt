-- A cabin that stands soundly moves soundly.
use Rattle.std.proofs.Common.{◌≡◌, ℕ, ◌+◌, ◌<◌, ◌≤◌, Bool, true, cond, ltb, leb, List, [], ◌∷◌, Some, None, Option, refl, subst, arith}
use Rattle.std.proofs.lemmas.Bool.{and_parts, cond_both, leb-true, ltb-true}
use Rattle.settings.specs.Kinds.{kind_of}
use Rattle.settings.specs.declared.status.Status.{Status}
use Rattle.agreement.specs.Rules.{Hall, Table, quorum}
use Rattle.agreement.specs.Books.{Filled}
use Rattle.agreement.specs.History.{History, Honest, Laws}
use Rattle.agreement.proofs.Agreement.{quorum_only_later}
use Rattle.agreement.proofs.TwoWay.{two_way_first}
use Rattle.coins.specs.Bits.{are_bits, bits_after, first_bit}
use Rattle.packets.specs.declared.record.Fields.{Fields}
use Rattle.table.specs.Rules.{count_in, hall_of, is_decided}
use Rattle.moves.specs.Moving.{Moved, at_phase, catch_tosses, caught_up, leave, left_phase, moved, settled}
use Rattle.moves.specs.declared.state.State.{State}
use Rattle.runs.proofs.Sound.{Backed, Stands}
use Rattle.runs.proofs.Settling.{Poised, decision_stays, settled_stands}
use Rattle.runs.proofs.Catching.{caught_poised}
use Rattle.runs.proofs.Leaving.{Lasting, left_poised}

-- a cabin that was c moved, and is c'
pub record MovesWell (ever : Table) (c c' : State) : Type 0 where
  pub stands : Stands (hall_of c.settings) ever c'.phase c'.value (is_decided c'.status) c'.decision
  -- it never goes back, and in its phase its value stays
  pub forward : c.phase ≤ c'.phase
  pub same_value : c'.phase ≡ c.phase → c'.value ≡ c.value
  -- a decision stays
  pub stays : (v : ℕ) → c.decision ≡ Some v → c'.decision ≡ Some v
  pub same_settings : c'.settings ≡ c.settings
  pub same_branch : c'.branch ≡ c.branch
  pub same_number : c'.number ≡ c.number

-- a toss gives a course, and leaves bits
first_bit_small : (bits : List ℕ) → are_bits bits ≡ true → first_bit bits < 2
first_bit_small [] each = omega arith
first_bit_small (b ∷ bs) each = let low = leb-true b 1 (and_parts (leb b 1) (are_bits bs) each).0 in omega arith

bits_after_are : (bits : List ℕ) → are_bits bits ≡ true → are_bits (bits_after bits) ≡ true
bits_after_are [] each = each
bits_after_are (b ∷ bs) each = (and_parts (leb b 1) (are_bits bs) each).1

-- All records that the cabin c has ever kept are `ever`, and it stands soundly.
module _ (c : State) (ever : Table) (filled : Filled (hall_of c.settings) ever) (lasting : Lasting (hall_of c.settings) ever) (stands : Stands (hall_of c.settings) ever c.phase c.value (is_decided c.status) c.decision) where
  -- it may go on in phase φ with the value v and a status
  record Going (φ v : ℕ) (status : Status) : Type 0 where
    pub poised : Poised (hall_of c.settings) ever φ v (is_decided status)
    pub forward : c.phase ≤ φ
    pub same_value : φ ≡ c.phase → v ≡ c.value

  -- where it stood
  stays_there : Going c.phase c.value c.status
  stays_there = record {
    poised = record { begun = stands.begun; valid = stands.valid; backed = stands.backed; undecided = stands.undecided };
    forward = omega arith;
    same_value = λ _. refl;
  }

  -- its decision is filled
  settles : (φ v : ℕ) (status : Status) → Going φ v status → MovesWell ever c (settled c.phase (at_phase c φ v status))
  settles φ v status going = record {
    stands = settled_stands c.settings.cabins c.settings.faults ever φ v status c.decision going.poised (λ w e. let r = stands.rests w e in (r.0, omega (arith, r.1, going.forward), r.2));
    forward = going.forward;
    same_value = going.same_value;
    stays = λ w e. decision_stays c.decision status v w e;
    same_settings = refl;
    same_branch = refl;
    same_number = refl;
  }

  -- it leaves its phase where that has a quorum
  leaves : (φ v : ℕ) (status : Status) (bits : List ℕ) → Going φ v status → are_bits bits ≡ true → MovesWell ever c (settled c.phase (leave ever (record { state = at_phase c φ v status; bits = bits })).state)
  leaves φ v status bits going each =
      let there : State = at_phase c φ v status in
      let m : Moved = record { state = there; bits = bits } in
      cond_both (leb (quorum (hall_of c.settings)) (count_in c.settings ever φ)) (left_phase ever m) m (λ x. MovesWell ever c (settled c.phase x.state))
      (λ enough. settles (φ + 1) _ _ (record {
        poised = left_poised there ever filled lasting going.poised (leb-true _ _ enough) (first_bit bits) (first_bit_small bits each);
        forward = omega (arith, going.forward);
        same_value = λ e. absurd (omega (arith, going.forward));
      }))
      (λ _. settles φ v status going)

  -- it catches up with a record ahead of it
  goes_ahead : (f : Fields) (bits : List ℕ) → Backed c.settings ever f → c.phase < f.phase → are_bits bits ≡ true → Going f.phase (cond (catch_tosses (kind_of f.phase) c ever f) (first_bit bits) f.value) f.status
  goes_ahead f bits backed later each = record {
    poised = caught_poised c ever f (first_bit bits) filled backed (omega (arith, stands.begun)) (first_bit_small bits each);
    forward = omega arith;
    same_value = λ e. absurd (omega arith);
  }

  -- the whole move
  catches : (ahead : Option Fields) (bits : List ℕ) → ((f : Fields) → ahead ≡ Some f → Backed c.settings ever f) → are_bits bits ≡ true → MovesWell ever c (moved ever ahead (record { state = c; bits = bits })).state
  catches None bits backed each = leaves c.phase c.value c.status bits stays_there each
  catches (Some f) bits backed each =
      let m : Moved = record { state = c; bits = bits } in
      let tossed : Bool = catch_tosses (kind_of f.phase) c ever f in
      let rest = cond_both tossed (bits_after bits) bits (λ x. are_bits x ≡ true) (λ _. bits_after_are bits each) (λ _. each) in
      cond_both (ltb c.phase f.phase) (caught_up ever f m) m (λ x. MovesWell ever c (settled c.phase (leave ever x).state))
      (λ later. leaves f.phase _ f.status (cond tossed (bits_after bits) bits) (goes_ahead f bits (backed f refl) (ltb-true c.phase f.phase later) each) rest)
      (λ _. leaves c.phase c.value c.status bits stays_there each)

-- The history H already has, for cabin i, all records that the packet left in its table: `ever`.
pub moves_well : (H : History) (i : ℕ) (ever : Table) (c : State) (ahead : Option Fields) (bits : List ℕ)
    → Laws (hall_of c.settings) H → Honest H i → H.kept i ≡ ever
    → Stands (hall_of c.settings) ever c.phase c.value (is_decided c.status) c.decision
    → ((f : Fields) → ahead ≡ Some f → Backed c.settings ever f)
    → are_bits bits ≡ true
    → MovesWell ever c (moved ever ahead (record { state = c; bits = bits })).state
moves_well H i ever c ahead bits laws hi own stands backed each =
    let hall : Hall = hall_of c.settings in
    let first = two_way_first c.settings.cabins c.settings.faults c.settings.third in
    let filled : Filled hall ever = subst (λ (t : Table). Filled hall t) own (laws.filled i hi) in
    let lasting : Lasting hall ever = subst (λ (t : Table). Lasting hall t) own (λ d φ v rests later. quorum_only_later hall H laws first i i d φ v hi hi rests later) in
    catches c ever filled lasting stands ahead bits backed each
