-- What reading and writing give together. Assumes nothing.
use Rattle.std.specs.Prelude.{◌≡◌, ℕ, ◌<◌, true, List, length, Ok, Result, ◌==◌, ◌≢◌}
use Rattle.settings.specs.Refusals.{needs}
use Rattle.settings.specs.declared.settings.Settings.{Settings}
use Rattle.packets.specs.Format.{word_size}
use Rattle.packets.specs.Packets.{is_last, packet_lawful, read_answer, record_at, shown_as, written}
use Rattle.packets.specs.Records.{fields_lawful, record_bytes}
use Rattle.packets.specs.declared.record.Fields.{Fields}

-- fields f and the word w were read at place k of the packet p
pub record Rewrites (p : List ℕ) (k : ℕ) (f : Fields) (w : List ℕ) : Type 0 where
  -- the word is whole
  pub whole : length w ≡ word_size
  -- rewritten at that place, the record gives its own bytes
  pub same : written p k (record_bytes f w) ≡ p

-- numbers of two bytes, as every value of the type `Fields` has them
abbrev pub InBytes : Fields → Type 0
InBytes f = (f.branch < 65536) × (f.phase < 65536)

-- what reading answers of fields that were written
abbrev pub judged : Settings → ℕ → Fields → Result Fields ℕ
judged s b f = needs (fields_lawful s f) 11 (needs (f.branch == b) 12 (Ok f))

-- fields f and the word w were written at place k of the buffer p, which is q afterwards
pub record ReadsBack (p q : List ℕ) (k : ℕ) (f : Fields) (w : List ℕ) : Type 0 where
  -- if q is a packet, the record reads back with the same fields and word
  pub reads : (s : Settings) (b : ℕ) → packet_lawful q ≡ true → read_answer s b q k ≡ shown_as (is_last q k) w (judged s b f)
  -- every other record is as it was
  pub others : (j : ℕ) → (j ≢ k) → record_at q j ≡ record_at p j
  -- a record with the same bytes is the same record
  pub apart : (g : Fields) (v : List ℕ) → InBytes g → record_bytes g v ≡ record_at q k → (g ≡ f) × (v ≡ w)
