-- The packet of an announcement while it is written. Assumes nothing.
use Rattle.std.specs.Prelude.{◌≡◌, ℕ, ◌*◌, ◌<◌, true, List, [], length, drop, ◌≢◌}
use Rattle.packets.specs.Format.{record_size, word_size}
use Rattle.packets.specs.Packets.{record_at, write_buffer}
use Rattle.packets.specs.Records.{record_bytes}
use Rattle.support.specs.Support.{Supports}
use Rattle.table.specs.declared.place.Place.{Place}
use Rattle.moves.specs.Announcing.{Content, with_support}
use Rattle.moves.specs.declared.state.State.{State}

-- the places that are sent as the support of a cabin's own record
pub record Chosen (c : State) (t : List Place) (ks : List ℕ) : Type 0 where
  pub alone : (with_support c ≢ true) → ks ≡ []
  pub supports : with_support c ≡ true → Supports c.settings t c.phase c.value c.status ks

-- a record was written at place k of a buffer that has it
pub record Wrote (x : Content) (k : ℕ) (before after : List ℕ) : Type 0 where
  pub whole : length x.word ≡ word_size
  pub after_is : after ≡ write_buffer before k x.fields x.word

-- the first k records of a buffer were written, and nothing behind them
pub record Written (contents : ℕ → Content) (k : ℕ) (before after : List ℕ) : Type 0 where
  pub long : length after ≡ length before
  pub bytes : (j : ℕ) → j < k → record_at after j ≡ record_bytes (contents j).fields (contents j).word
  pub rest : drop (k * record_size) after ≡ drop (k * record_size) before
