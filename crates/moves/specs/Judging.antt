-- What becomes of a record that is heard. Assumes nothing.
use Rattle.std.specs.Prelude.{ℕ, Bool, cond, List, Ok, Result, ◌==◌, nat_le}
use Rattle.settings.specs.Refusals.{needs, refusal_number}
use Rattle.settings.specs.declared.settings.Settings.{Settings}
use Rattle.packets.specs.declared.record.Fields.{Fields}
use Rattle.table.specs.Places.{records_of}
use Rattle.table.specs.Rules.{meets_phase, meets_status, meets_value}
use Rattle.table.specs.declared.place.Place.{Place}
use Rattle.moves.specs.declared.fault.Fault.{Fault}
use Rattle.moves.specs.declared.fault.Finding.{Finding}
use Rattle.moves.specs.declared.fault.Finding.TheVariants.{New, Known}
use Rattle.moves.specs.declared.fault.Layer.{Layer}
use Rattle.moves.specs.declared.fault.Layer.TheVariants.{Frame, Word, Rule}

-- a word check's meaning: yes or no for a cabin, a phase, a value and a word
abbrev pub Check : Type 0
Check = ℕ → ℕ → ℕ → List ℕ → Bool

-- the three rules at a table: refusal 14 for the phase, 15 for the value, 16 for the status
abbrev pub ruled : Settings → List Place → Fields → Result Finding ℕ
ruled s t f =
    needs (meets_phase s (records_of s t) f.phase) 14
    (needs (meets_value s (records_of s t) f.phase f.value) 15
    (needs (meets_status s (records_of s t) f.phase f.value f.status) 16 (Ok New)))

-- a record whose frame is lawful: refusal 13 for its word; known where its place is filled; else by the rules
abbrev pub found : Check → Settings → List Place → Fields → List ℕ → Result Finding ℕ
found check s t f w =
    needs (check f.cabin f.phase f.value w) 13
    (cond (records_of s t f.phase f.cabin f.value) (Ok Known) (ruled s t f))

-- the layer of a record's refusal: 11 and 12 are of the frame, 13 of the word, 14 to 16 of the rules
abbrev pub layer_of : ℕ → Layer
layer_of k = cond (nat_le k 12) Frame (cond (k == 13) Word Rule)

-- the number of each layer
abbrev pub layer_number : Layer → ℕ
layer_number Frame = 0
layer_number Word = 1
layer_number Rule = 2

-- a fault as the rules see it: the refusal's number, the record's place and the layer
pub record FaultView : Type 0 where
  pub number : ℕ
  pub place : ℕ
  pub layer : Layer

abbrev pub fault_view : Fault → FaultView
fault_view x = record { number = refusal_number x.refusal; place = x.place; layer = x.layer }

abbrev pub fault_at : ℕ → ℕ → FaultView
fault_at k place = record { number = k; place = place; layer = layer_of k }
