-- A small hall, and one of its cabins, which is opened and hears packets. Assumes nothing.
use Rattle.std.specs.Prelude.{ℕ, ◌+◌, true, List, [], ◌∷◌, ◌++◌, replicate, Option, refl}
use Rattle.std.proofs.Common.{lit<, lit≤}
use Rattle.settings.specs.declared.settings.Settings.{Settings}
use Rattle.settings.specs.declared.status.Status.{Status}
use Rattle.settings.specs.declared.status.Status.TheVariants.{Undecided}
use Rattle.words.specs.Words.{zero_word}
use Rattle.packets.specs.Records.{record_bytes}
use Rattle.packets.specs.declared.record.Fields.{Fields}
use Rattle.table.specs.Places.{places_of}
use Rattle.table.specs.declared.place.Place.{Place}
use Rattle.table.specs.declared.place.Place.TheVariants.{Empty}
use Rattle.moves.specs.Hearing.{hear_answer, hear_bits, hear_state, hear_table}
use Rattle.moves.specs.Judging.{Check}
use Rattle.moves.specs.Opening.{opened}
use Rattle.moves.specs.declared.state.State.{State}

-- four cabins, one of which may be faulty, and the last phase 3
abbrev pub small_hall : Settings
small_hall = record {
  cabins = 4;
  faults = 1;
  phases = 3;
  fewest = lit≤ tt;
  most = lit≤ tt;
  third = lit< tt;
  first = lit≤ tt;
  last = lit≤ tt;
  cycles = refl;
}

-- in phase φ cabin i says v at branch point 7, undecided: the fields of this record, and its bytes, with a word of zeros
abbrev pub says : ℕ → ℕ → ℕ → Fields
says φ i v = record { cabin = i; value = v; status = Undecided; branch = 7; phase = φ }

abbrev pub said : ℕ → ℕ → ℕ → List ℕ
said φ i v = record_bytes (says φ i v) zero_word

-- a packet: in phase φ the cabins from i on say these values
abbrev pub said_from : ℕ → ℕ → List ℕ → List ℕ
said_from i φ [] = []
said_from i φ (v ∷ vs) = said φ i v ++ said_from (i + 1) φ vs

-- cabins 0, 1 and so on say them
abbrev pub all_said : ℕ → List ℕ → List ℕ
all_said φ vs = said_from 0 φ vs

-- a cabin, its table, and the bits that its coin still has
pub record Seated : Type 0 where
  pub state : State
  pub table : List Place
  pub bits : List ℕ

-- cabin 3, just opened with choice 1, and a coin that will toss 1 and then 0
abbrev pub fresh : Seated
fresh = record { state = opened small_hall 3 7 1; table = replicate (places_of small_hall) Empty; bits = 1 ∷ 0 ∷ [] }

-- every word passes
abbrev pub passes_all : Check
passes_all i φ v w = true

-- what hearing a packet leaves
abbrev pub hears : Seated → List ℕ → Seated
hears a p = record {
  state = hear_state passes_all a.state a.table p a.bits (hear_answer passes_all a.state a.table p a.bits);
  table = hear_table passes_all a.state a.table p (hear_answer passes_all a.state a.table p a.bits);
  bits = hear_bits passes_all a.state a.table p a.bits (hear_answer passes_all a.state a.table p a.bits);
}

abbrev pub hears_all : Seated → List (List ℕ) → Seated
hears_all a [] = a
hears_all a (p ∷ ps) = hears_all (hears a p) ps

-- the fresh cabin after these packets
abbrev pub after : List (List ℕ) → Seated
after ps = hears_all fresh ps

-- its phase, value, status and decision
abbrev pub standing : Seated → ℕ × ℕ × Status × Option ℕ
standing a = (a.state.phase, a.state.value, a.state.status, a.state.decision)
