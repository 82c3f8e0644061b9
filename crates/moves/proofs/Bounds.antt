-- A move keeps the bounds of a cabin.
use Rattle.std.proofs.Common.{◌≡◌, ℕ, ◌+◌, ◌<◌, ◌≤◌, Bool, true, false, ltb, leb, List, [], ◌∷◌, Some, None, Option, sym, refl, subst, inl, inr, arith}
use Rattle.std.proofs.lemmas.Bool.{cases_Bool, leb-true, ltb-true}
use Rattle.settings.specs.Kinds.{kind_of}
use Rattle.settings.specs.declared.kind.PhaseKind.{PhaseKind}
use Rattle.settings.specs.declared.kind.PhaseKind.TheVariants.{Converge, Lock, Decide}
use Rattle.settings.specs.declared.settings.Settings.{Settings}
use Rattle.settings.specs.declared.status.Status.{Status}
use Rattle.agreement.specs.Rules.{Table, quorum}
use Rattle.coins.specs.Bits.{are_bits, bits_after, first_bit}
use Rattle.packets.specs.declared.record.Fields.{Fields}
use Rattle.table.specs.Places.{records_of}
use Rattle.table.specs.Rules.{count_in, hall_of}
use Rattle.table.specs.declared.place.Place.{Place}
use Rattle.moves.specs.Moving.{Moved, catch_tosses, catch_up, leave, leave_status, leave_tosses, leave_value, moved, moves_to, with_bits}
use Rattle.moves.specs.declared.state.State.{State}
use Rattle.moves.proofs.Moves.{counted_within}

-- the bounds that every cabin keeps
pub record Bounded (c : State) : Type 0 where
  pub seated : c.number < c.settings.cabins
  pub begun : 1 ≤ c.phase
  pub ended : c.phase ≤ c.settings.phases + 1
  pub valued : c.value ≤ 2

-- and a coin that gives bits, beside a cabin of some settings
record BoundedMove (s : Settings) (m : Moved) : Type 0 where
  bounded : Bounded m.state
  bits : are_bits m.bits ≡ true
  settings : m.state.settings ≡ s

first_small : (bits : List ℕ) → are_bits bits ≡ true → first_bit bits ≤ 1
first_small [] each = omega arith
first_small (b ∷ bs) each = grind arith

after_bits : (bits : List ℕ) → are_bits bits ≡ true → are_bits (bits_after bits) ≡ true
after_bits [] each = refl
after_bits (b ∷ bs) each = grind arith

-- to a phase up to P + 1 with a value up to 2, tossed or not
to_bounded : (s : Settings) (tossed : Bool) (m : Moved) (φ v : ℕ) (status : Status) → BoundedMove s m → 1 ≤ φ → φ ≤ s.phases + 1 → v ≤ 2 → BoundedMove s (moves_to tossed m φ v status)
to_bounded s true m φ v status b from to small = record {
  bounded = record { seated = b.bounded.seated; begun = from; ended = rw b.settings to; valued = omega (arith, first_small m.bits b.bits) };
  bits = after_bits m.bits b.bits;
  settings = b.settings;
}
to_bounded s false m φ v status b from to small = record {
  bounded = record { seated = b.bounded.seated; begun = from; ended = rw b.settings to; valued = small };
  bits = b.bits;
  settings = b.settings;
}

catch_bounded : (s : Settings) (t : Table) (ahead : Option Fields) (m : Moved) → ((f : Fields) → ahead ≡ Some f → (f.phase ≤ s.phases) × (f.value ≤ 2)) → BoundedMove s m → BoundedMove s (catch_up t ahead m)
catch_bounded s t None m lawful b = b
catch_bounded s t (Some f) m lawful b =
    elim (cases_Bool (ltb m.state.phase f.phase)) [
      | inl e ↦
          let above = ltb-true m.state.phase f.phase e in
          let small = lawful f refl in
          rw e (to_bounded s (catch_tosses (kind_of f.phase) m.state t f) m f.phase f.value f.status b (omega arith) (omega (arith, small.0)) small.1)
      | inr e ↦ rw e b
    ]

left_small : (kind : PhaseKind) (c : State) (t : Table) → leave_value kind c t ≤ 2
left_small Converge c t = grind arith
left_small Lock c t = grind arith
left_small Decide c t = grind arith

-- only a phase up to P is left
leave_bounded : (t : List Place) (m : Moved) → BoundedMove m.state.settings m → BoundedMove m.state.settings (leave (records_of m.state.settings t) m)
leave_bounded t m b =
    let c : State = m.state in
    let s : Settings = c.settings in
    let R : Table = records_of s t in
    elim (cases_Bool (leb (quorum (hall_of s)) (count_in s R c.phase))) [
      | inl e ↦
          let enough = leb-true (quorum (hall_of s)) (count_in s R c.phase) e in
          let late = counted_within s t c.phase (omega (arith, enough)) in
          rw e (to_bounded s (leave_tosses (kind_of c.phase) c R) m (c.phase + 1) (leave_value (kind_of c.phase) c R) (leave_status (kind_of c.phase) c R) b (omega arith) (omega arith) (left_small (kind_of c.phase) c R))
      | inr e ↦ rw e b
    ]

pub moved_bounded : (t : List Place) (ahead : Option Fields) (c : State) (bits : List ℕ) → ((f : Fields) → ahead ≡ Some f → (f.phase ≤ c.settings.phases) × (f.value ≤ 2)) → Bounded c → are_bits bits ≡ true → Bounded (moved (records_of c.settings t) ahead (with_bits c bits)).state
moved_bounded t ahead c bits lawful bounded each =
    let s : Settings = c.settings in
    let R : Table = records_of s t in
    let caught = catch_bounded s R ahead (with_bits c bits) lawful (record { bounded = bounded; bits = each; settings = refl }) in
    let m : Moved = catch_up R ahead (with_bits c bits) in
    let own = subst (λ (x : Settings). BoundedMove x m) (sym caught.settings) caught in
    let left = subst (λ (x : Settings). BoundedMove x (leave (records_of x t) m)) caught.settings (leave_bounded t m own) in
    record { seated = left.bounded.seated; begun = left.bounded.begun; ended = left.bounded.ended; valued = left.bounded.valued }
