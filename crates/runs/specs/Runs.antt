-- A run: calls of honest cabins, each with any result that its contract allows. Assumes nothing.
use Rattle.std.specs.Prelude.{◌≡◌, ℕ, true, List, take, Some, None, Ok, Err}
use Rattle.settings.specs.declared.settings.Settings.{Settings}
use Rattle.coins.specs.Bits.{are_bits}
use Rattle.packets.specs.Packets.{Shown, read_answer}
use Rattle.table.specs.declared.place.Place.{Place}
use Rattle.moves.specs.Announcing.{Announced, Sealing, announce_answer, announce_state}
use Rattle.moves.specs.Hearing.{Told, hear_answer, hear_state, hear_table}
use Rattle.moves.specs.Judging.{Check}
use Rattle.moves.specs.Opening.{open_answer, open_table}
use Rattle.moves.specs.declared.state.State.{State}
use Rattle.runs.specs.Sessions.{Honest, Moment, Seat, Session, after_announce, after_hear, after_open, beginning}

-- The premise on words: where a record of the packet p comes to the check of cabin c and passes, and it names an honest
-- cabin, that cabin has announced this phase and value.
abbrev pub Authentic : Session → Moment → State → List ℕ → Check → Type 0
Authentic w x c p check =
    (k : ℕ) (r : Shown) → read_answer c.settings c.branch p k ≡ Ok r
    → check r.fields.cabin r.fields.phase r.fields.value r.word ≡ true
    → Honest w r.fields.cabin
    → x.announced r.fields.cabin r.fields.phase r.fields.value ≡ true

-- One call of an honest cabin leads from one moment to the next.
pub data Step (w : Session) : Moment → Moment → Type 0 where
  -- a cabin that is not open is opened under its own number, with the session's settings and branch point
  opens : (x : Moment) (i v : ℕ) (t : List Place) (c : State)
      → Honest w i → x.seat i ≡ None
      → open_answer w.settings i w.branch v t ≡ Ok c
      → Step w x (after_open x i v c (open_table (Ok c) t))
  -- an open cabin, as its last accepted call left it, announces with whatever sealer
  announces : (x : Moment) (i size : ℕ) (seat : Seat) (sealer : Sealing) (buffer after : List ℕ)
      → Honest w i → x.seat i ≡ Some seat
      → announce_answer seat.state seat.table sealer buffer ≡ Ok tt
      → Announced seat.state seat.table sealer buffer after size
      → Step w x (after_announce x i (announce_state (Ok tt) seat.state) seat.table (take size after))
  -- an open cabin, as its last accepted call left it, hears: bytes, check and coin may be anything
  hears : (x : Moment) (i : ℕ) (seat : Seat) (p bits : List ℕ) (check : Check) (told : Told)
      → Honest w i → x.seat i ≡ Some seat
      → hear_answer check seat.state seat.table p bits ≡ Ok told
      → are_bits bits ≡ true
      → Authentic w x seat.state p check
      → Step w x (after_hear x i seat.state (hear_state check seat.state seat.table p bits (Ok told)) (hear_table check seat.state seat.table p (Ok told)))
  -- a call is refused, whatever it was given: nothing changes
  open_refused : (x : Moment) (s : Settings) (i b v k : ℕ) (t : List Place) → open_answer s i b v t ≡ Err k → Step w x x
  announce_refused : (x : Moment) (c : State) (t : List Place) (sealer : Sealing) (buffer : List ℕ) (k : ℕ) → announce_answer c t sealer buffer ≡ Err k → Step w x x
  hear_refused : (x : Moment) (c : State) (t : List Place) (p bits : List ℕ) (check : Check) (k : ℕ) → hear_answer check c t p bits ≡ Err k → Step w x x

-- The moments that a session can come to, call by call.
pub data Run (w : Session) : Moment → Type 0 where
  none : Run w beginning
  then : (x y : Moment) → Run w x → Step w x y → Run w y

-- the moments that can follow a moment
pub data Later (w : Session) (x : Moment) : Moment → Type 0 where
  same : Later w x x
  later : (y z : Moment) → Later w x y → Step w y z → Later w x z
