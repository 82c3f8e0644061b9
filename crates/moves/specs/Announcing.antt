-- What announcing answers, and the packet it writes. Assumes nothing.
use Rattle.std.specs.Prelude.{◌≡◌, ℕ, ◌+◌, ◌*◌, ◌≤◌, Bool, true, cond, ◌&&◌, List, [], length, take, drop, Ok, Err, Result, ◌==◌, ◌≢◌, nat_le, nat_lt, slice_index, slice_index_or}
use Rattle.settings.specs.Refusals.{needs}
use Rattle.settings.specs.declared.status.Status.{Status}
use Rattle.settings.specs.declared.status.Status.TheVariants.{Undecided}
use Rattle.words.specs.Words.{zero_word}
use Rattle.packets.specs.Format.{longest_packet, record_size}
use Rattle.packets.specs.Laws.{judged}
use Rattle.packets.specs.Packets.{read_answer, record_at, shown_as}
use Rattle.packets.specs.Records.{record_bytes}
use Rattle.packets.specs.declared.record.Fields.{Fields}
use Rattle.table.specs.Places.{places_of}
use Rattle.table.specs.declared.place.Place.{Place}
use Rattle.table.specs.declared.place.Place.TheVariants.{Empty, Filled}
use Rattle.support.specs.Support.{Supports, place_cabin, place_phase, place_value}
use Rattle.moves.specs.declared.state.State.{State}

-- A sealer's meaning: its cabin, its last phase, and its word for a phase and a value.
pub record Sealing : Type 0 where
  pub owner : ℕ
  pub last : ℕ
  pub seals : ℕ → ℕ → List ℕ

abbrev pub sealing : ℕ → ℕ → (ℕ → ℕ → List ℕ) → Sealing
sealing owner last seals = record { owner = owner; last = last; seals = seals }

-- refusal 5 for the table's size, 3 for a sealer of another cabin, 6 for its last phase, 8 for a buffer under 1,440 bytes,
-- 9 for a cabin that is past the last phase
abbrev pub announce_answer : State → List Place → Sealing → List ℕ → Result (Unit {0}) ℕ
announce_answer c t sealer buffer =
    needs (length t == places_of c.settings) 5
    (needs (sealer.owner == c.number) 3
    (needs (sealer.last == c.settings.phases) 6
    (needs (nat_le longest_packet (length buffer)) 8
    (needs (nat_le c.phase c.settings.phases) 9 (Ok tt)))))

-- the cabin with the mark
abbrev pub marked : State → State
marked c = record {
  settings = c.settings;
  number = c.number;
  branch = c.branch;
  phase = c.phase;
  value = c.value;
  status = c.status;
  decision = c.decision;
  announced = true;
}

-- an accepted announce sets the mark, a refused one leaves the cabin as it was
abbrev pub announce_state : Result (Unit {0}) ℕ → State → State
announce_state (Ok x) c = marked c
announce_state (Err k) c = c

-- a record: its fields and its word
pub record Content : Type 0 where
  pub fields : Fields
  pub word : List ℕ

-- what the cabin says of itself, with its sealer's word
abbrev pub own_content : State → Sealing → Content
own_content c sealer = record {
  fields = record { cabin = c.number; value = c.value; status = c.status; branch = c.branch; phase = c.phase };
  word = sealer.seals c.phase c.value;
}

abbrev pub place_status : Place → Status
place_status Empty = Undecided
place_status (Filled status word) = status

abbrev pub place_word : Place → List ℕ
place_word Empty = zero_word
place_word (Filled status word) = word

-- the record at place k of the table, with its status and its word
abbrev pub copied : State → List Place → ℕ → Content
copied c t k = record {
  fields = record {
    cabin = place_cabin c.settings k;
    value = place_value k;
    status = place_status (slice_index_or t k Empty);
    branch = c.branch;
    phase = place_phase c.settings k;
  };
  word = place_word (slice_index_or t k Empty);
}

-- the record at place j of a packet that supports by the places ks: the copies, then the cabin's own record
abbrev pub said_at : State → List Place → Sealing → List ℕ → ℕ → Content
said_at c t sealer ks j = cond (nat_lt j (length ks)) (copied c t (slice_index ks j)) (own_content c sealer)

-- support is sent from phase 2 on, once the cabin has announced in its phase
abbrev pub with_support : State → Bool
with_support c = nat_lt 1 c.phase && c.announced

-- The packet that an announce wrote into a buffer, which is `after` then: so many bytes.
pub record Announced (c : State) (t : List Place) (sealer : Sealing) (buffer after : List ℕ) (size : ℕ) : Type 0 where
  -- the places of the support: none, or such as support the cabin's own record
  pub places : List ℕ
  pub alone : (with_support c ≢ true) → places ≡ []
  pub supports : with_support c ≡ true → Supports c.settings t c.phase c.value c.status places
  -- a record for each of them, and the cabin's own
  pub size_is : size ≡ (length places + 1) * record_size
  pub bytes : (j : ℕ) → j ≤ length places → record_at after j ≡ record_bytes (said_at c t sealer places j).fields (said_at c t sealer places j).word
  -- the bytes behind the packet stay
  pub long : length after ≡ length buffer
  pub rest : drop size after ≡ drop size buffer
  -- the packet reads back as these records, the last one as the announcement
  pub reads : (j : ℕ) → j ≤ length places → read_answer c.settings c.branch (take size after) j ≡ shown_as (j == length places) (said_at c t sealer places j).word (judged c.settings c.branch (said_at c t sealer places j).fields)
