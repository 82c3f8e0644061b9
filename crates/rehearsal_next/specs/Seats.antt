-- A seat of a rehearsal, and what each kind of step does to it. Assumes nothing.
use Rattle.std.specs.Prelude.{◌≡◌, ℕ, List, [], take, replicate, Some, None, Ok, Err, vec_items, Option, Result}
use Rattle.std.specs.Option.{option_map}
use Rattle.coins.specs.Register.{register_coin_bits}
use Rattle.table.specs.Places.{places_of, emptied}
use Rattle.table.specs.declared.place.Place.{Place}
use Rattle.table.specs.declared.place.Place.TheVariants.{Empty}
use Rattle.moves.specs.Announcing.{Announced, announce_answer, marked}
use Rattle.moves.specs.Hearing.{Told, hear_answer, hear_bits, hear_state, hear_table}
use Rattle.moves.specs.Opening.{open_answer}
use Rattle.moves.specs.declared.state.State.{State}
use Rattle.cabin.specs.Views.{cabin_state}
use Rattle.script.specs.Settings.{rehearsal_settings}
use Rattle.script.specs.Stage.{Turn, opens_from, refuses}
use Rattle.rehearsal_next.specs.Answers.{heard_answer}
use Rattle.rehearsal_next.specs.Words.{sealing_of, word_check}
use Rattle.rehearsal_next.specs.declared.packet.Packet.{Packet}
use Rattle.rehearsal_next.specs.declared.seat.Seat.{Seat}

-- a seat as the rules see it: the state of its cabin if it is open, its table, the latest packet that it announced, and the
-- bits that its coin still has
pub record SeatView : Type 0 where
  pub state : Option State
  pub table : List Place
  pub packet : Option (List ℕ)
  pub bits : List ℕ

abbrev pub packet_bytes : Packet → List ℕ
packet_bytes p = take p.size p.bytes

abbrev pub seat_view : Seat → SeatView
seat_view s = record {
  state = option_map cabin_state s.cabin;
  table = vec_items s.table;
  packet = option_map packet_bytes s.packet;
  bits = register_coin_bits s.coin;
}

-- a seat whose cabin is not open, with an empty table, no packet and these bits
abbrev pub closed_seat : List ℕ → SeatView
closed_seat bits = record { state = None; table = replicate (places_of rehearsal_settings) Empty; packet = None; bits = bits }

-- the bytes of a packet, or none
abbrev pub packet_or_none : Option (List ℕ) → List ℕ
packet_or_none None = []
packet_or_none (Some p) = p

-- kind 1: opening cabin i with choice v at branch point 0, unless it is open
abbrev pub seat_opens : ℕ → ℕ → SeatView → Turn SeatView
seat_opens i v seat =
    opens_from seat.state (open_answer rehearsal_settings i 0 v seat.table) (λ c. record { state = Some c; table = emptied seat.table; packet = seat.packet; bits = seat.bits }) seat

-- what a seat does whose cabin has to be open
abbrev pub if_open : Option State → (State → Turn SeatView) → SeatView → Turn SeatView
if_open None does seat = refuses 19 seat
if_open (Some c) does seat = does c

-- announcing writes to a buffer of 1,440 zeros
abbrev pub blank : List ℕ
blank = replicate 1440 0

abbrev pub announce_reply : ℕ → State → List Place → Result (Unit {0}) ℕ
announce_reply i c t = announce_answer c t (sealing_of i) blank

-- kind 2: cabin i announces, and writes the packet p
abbrev pub announces_as : Result (Unit {0}) ℕ → List ℕ → State → SeatView → Turn SeatView
announces_as (Ok x) p c seat = record {
  reply = Ok None;
  seat = record { state = Some (marked c); table = seat.table; packet = Some p; bits = seat.bits };
}
announces_as (Err k) p c seat = refuses k seat

abbrev pub seat_announces : ℕ → List ℕ → SeatView → Turn SeatView
seat_announces i p seat = if_open seat.state (λ c. announces_as (announce_reply i c seat.table) p c seat) seat

-- The packet p is one that cabin i may write: the first bytes of what announcing made of the buffer.
pub record Writes (i : ℕ) (c : State) (t : List Place) (p : List ℕ) : Type 0 where
  pub after : List ℕ
  pub size : ℕ
  pub announced : Announced c t (sealing_of i) blank after size
  pub bytes : p ≡ take size after

-- where the announce is accepted
abbrev pub if_accepted : Result (Unit {0}) ℕ → Type 0 → Type 0
if_accepted (Ok x) fact = fact
if_accepted (Err k) fact = Unit {0}

abbrev pub may_write : Option State → ℕ → List Place → List ℕ → Type 0
may_write None i t p = Unit {0}
may_write (Some c) i t p = if_accepted (announce_reply i c t) (Writes i c t p)

abbrev pub MayAnnounce : ℕ → SeatView → List ℕ → Type 0
MayAnnounce i seat p = may_write seat.state i seat.table p

-- hearing the packet p
abbrev pub hears_as : State → List ℕ → SeatView → Result Told ℕ → Turn SeatView
hears_as c p seat answer = record {
  reply = heard_answer answer;
  seat = record {
    state = Some (hear_state word_check c seat.table p seat.bits answer);
    table = hear_table word_check c seat.table p answer;
    packet = seat.packet;
    bits = hear_bits word_check c seat.table p seat.bits answer;
  };
}

abbrev pub seat_hears : List ℕ → SeatView → Turn SeatView
seat_hears p seat = if_open seat.state (λ c. hears_as c p seat (hear_answer word_check c seat.table p seat.bits)) seat

-- kind 3: hearing the latest packet of a cabin, if it has one
abbrev pub seat_hears_latest : Option (List ℕ) → SeatView → Turn SeatView
seat_hears_latest None seat = refuses 19 seat
seat_hears_latest (Some p) seat = seat_hears p seat
