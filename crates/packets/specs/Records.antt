-- The 40 bytes of a record: what reading its fields answers, and the bytes of given fields. Assumes nothing.
use Rattle.std.specs.Prelude.{ℕ, ◌+◌, ◌*◌, ◌/◌, ◌%◌, Bool, cond, ◌&&◌, List, [], ◌∷◌, ◌++◌, Ok, Result, ◌==◌, nat_le, nat_lt, slice_index}
use Rattle.settings.specs.Kinds.{kind_of, status_number}
use Rattle.settings.specs.Refusals.{needs}
use Rattle.settings.specs.declared.kind.PhaseKind.{PhaseKind}
use Rattle.settings.specs.declared.kind.PhaseKind.TheVariants.{Converge, Lock, Decide}
use Rattle.settings.specs.declared.settings.Settings.{Settings}
use Rattle.settings.specs.declared.slot.Slot.{Slot}
use Rattle.settings.specs.declared.status.Status.{Status}
use Rattle.settings.specs.declared.status.Status.TheVariants.{Undecided, Decided}
use Rattle.packets.specs.Format.{branch_place, cabin_place, phase_place, status_place, value_place, zero_place}
use Rattle.packets.specs.declared.record.Fields.{Fields}

-- a number of two bytes, the high byte first
abbrev pub pair_of : ℕ → ℕ → ℕ
pair_of high low = high * 256 + low

abbrev pub status_of : ℕ → Status
status_of b = cond (b == 1) Decided Undecided

abbrev pub byte : List ℕ → ℕ → ℕ
byte bs j = slice_index bs j

-- the number whose two bytes begin at j
abbrev pub pair : List ℕ → ℕ → ℕ
pair bs j = pair_of (byte bs j) (byte bs (j + 1))

abbrev pub fields_in : List ℕ → Fields
fields_in bs = record {
  cabin = byte bs cabin_place;
  value = byte bs value_place;
  status = status_of (byte bs status_place);
  branch = pair bs branch_place;
  phase = pair bs phase_place;
}

-- the slot that a record is for
abbrev pub slot_of : Fields → Slot
slot_of f = record { cabin = f.cabin; phase = f.phase; value = f.value }

-- value 2, no preference, is lawful only in DECIDE phases
abbrev pub highest_in : PhaseKind → ℕ
highest_in Converge = 1
highest_in Lock = 1
highest_in Decide = 2

abbrev pub highest_value : ℕ → ℕ
highest_value φ = highest_in (kind_of φ)

-- a cabin below n, a phase from 1 to P, and a value that the phase may have
abbrev pub fields_lawful : Settings → Fields → Bool
fields_lawful s f =
    nat_lt f.cabin s.cabins && (nat_le 1 f.phase && (nat_le f.phase s.phases && nat_le f.value (highest_value f.phase)))

-- a status of 0 or 1, and the byte that is always 0
abbrev pub bytes_lawful : List ℕ → Bool
bytes_lawful bs = nat_le (byte bs status_place) 1 && byte bs zero_place == 0

-- refusal 11 for an unlawful record, then 12 for another branch point; else its fields
abbrev pub fields_answer : Settings → ℕ → List ℕ → Result Fields ℕ
fields_answer s b bs =
    needs (fields_lawful s (fields_in bs) && bytes_lawful bs) 11 (needs ((fields_in bs).branch == b) 12 (Ok (fields_in bs)))

-- the two bytes of a number
abbrev pub pair_bytes : ℕ → List ℕ
pair_bytes n = (n / 256 % 256) ∷ (n % 256) ∷ []

-- the bytes before the word, in their order
abbrev pub head_bytes : Fields → List ℕ
head_bytes f =
    f.cabin ∷ f.value ∷ status_number f.status ∷ 0 ∷ (pair_bytes f.branch ++ pair_bytes f.phase)

-- the 40 bytes of a record
abbrev pub record_bytes : Fields → List ℕ → List ℕ
record_bytes f w = head_bytes f ++ w
