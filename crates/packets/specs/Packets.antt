-- A packet as a row of records, and what reading and writing at a place of it answer. Assumes nothing.
use Rattle.std.specs.Prelude.{ℕ, ◌+◌, ◌*◌, ◌/◌, ◌%◌, Bool, true, false, cond, ◌&&◌, List, ◌++◌, length, take, drop, Ok, Err, Result, ◌==◌, nat_le, nat_lt}
use Rattle.std.specs.List.{between}
use Rattle.settings.specs.Refusals.{needs}
use Rattle.settings.specs.declared.settings.Settings.{Settings}
use Rattle.packets.specs.Format.{longest_packet, record_size, word_place}
use Rattle.packets.specs.Records.{fields_answer, record_bytes}
use Rattle.packets.specs.declared.record.Fields.{Fields}
use Rattle.packets.specs.declared.packet.Reading.{Reading}
use Rattle.packets.specs.declared.packet.Reading.TheVariants.{Support, Announcement}

-- how many whole records so many bytes hold
abbrev pub places_in : List ℕ → ℕ
places_in p = length p / record_size

-- a packet: one record or more, at most 36, and none of them cut
abbrev pub packet_lawful : List ℕ → Bool
packet_lawful p = nat_le 1 (length p) && (nat_le (length p) longest_packet && length p % record_size == 0)

-- refusal 10 for another size; else how many records the packet has
abbrev pub records_answer : List ℕ → Result ℕ ℕ
records_answer p = needs (packet_lawful p) 10 (Ok (places_in p))

-- the bytes of the record at place k from 0
abbrev pub record_at : List ℕ → ℕ → List ℕ
record_at p k = between (k * record_size) (k * record_size + record_size) p

-- and those of its word
abbrev pub word_at : List ℕ → ℕ → List ℕ
word_at p k = between (k * record_size + word_place) (k * record_size + record_size) p

-- what a reading shows: whether it is the announcement, its fields and its word
pub record Shown : Type 0 where
  pub last : Bool
  pub fields : Fields
  pub word : List ℕ

abbrev pub shown : Reading → Shown
shown (Support f w) = record { last = false; fields = f; word = w.now }
shown (Announcement f w) = record { last = true; fields = f; word = w.now }

-- the last record is the announcement
abbrev pub is_last : List ℕ → ℕ → Bool
is_last p k = k + 1 == places_in p

-- the answer about a record, by the answer about its fields
abbrev pub shown_as : Bool → List ℕ → Result Fields ℕ → Result Shown ℕ
shown_as last w (Ok f) = Ok (record { last = last; fields = f; word = w })
shown_as last w (Err e) = Err e

-- refusal 10 for the packet's size and for a place that the packet does not have; else as its fields answer
abbrev pub read_answer : Settings → ℕ → List ℕ → ℕ → Result Shown ℕ
read_answer s b p k =
    needs (packet_lawful p) 10 (needs (nat_lt k (places_in p)) 10 (shown_as (is_last p k) (word_at p k) (fields_answer s b (record_at p k))))

-- the bytes bs in the place of record k, and no other change
abbrev pub written : List ℕ → ℕ → List ℕ → List ℕ
written p k bs = take (k * record_size) p ++ (bs ++ drop (k * record_size + record_size) p)

-- refusal 8 where the buffer is too short for place k
abbrev pub write_answer : List ℕ → ℕ → Result (Unit {0}) ℕ
write_answer p k = needs (nat_lt k (places_in p)) 8 (Ok tt)

-- the buffer afterwards; a refused write leaves it as it was
abbrev pub write_buffer : List ℕ → ℕ → Fields → List ℕ → List ℕ
write_buffer p k f w = cond (nat_lt k (places_in p)) (written p k (record_bytes f w)) p
