-- A session that is played: calls are made one after another, and what they leave is computed. Every such play is a run.
use Rattle.std.proofs.Common.{◌≡◌, ℕ, zero, suc, ◌<◌, ◌≤◌, Bool, true, false, not, ◌&&◌, eqb, ltb, List, [], ◌∷◌, ◌++◌, take, replicate, Some, None, Ok, Err, Option, Result, refl, ap, arith}
use Rattle.std.proofs.lemmas.Bool.{and_parts, both_ways, ltb-true, not-true}
use Rattle.words.specs.Words.{zero_word}
use Rattle.packets.specs.Laws.{judged}
use Rattle.packets.specs.Packets.{read_answer, record_at, shown_as}
use Rattle.packets.specs.Records.{record_bytes}
use Rattle.packets.proofs.Trips.{answer_of_bytes}
use Rattle.table.specs.Places.{places_of}
use Rattle.table.specs.declared.place.Place.{Place}
use Rattle.table.specs.declared.place.Place.TheVariants.{Empty}
use Rattle.moves.specs.Announcing.{Announced, Sealing, announce_answer, announce_state, own_content, said_at, with_support}
use Rattle.moves.specs.Hearing.{Told, hear_answer, hear_state, hear_table}
use Rattle.moves.specs.Judging.{Check}
use Rattle.moves.specs.Opening.{open_answer, open_table}
use Rattle.moves.specs.declared.state.State.{State}
use Rattle.runs.specs.Runs.{Run}
use Rattle.runs.specs.Runs.Run.{then}
use Rattle.runs.specs.Runs.Step.{opens, announces, hears}
use Rattle.runs.specs.Sessions.{Moment, Seat, Session, after_announce, after_hear, after_open}

-- a call: cabin i is opened with choice v, announces, or hears a packet
pub data Call : Type 0 where
  opening : ℕ → ℕ → Call
  announcing : ℕ → Call
  hearing : ℕ → List ℕ → Call

-- an open is made with an empty table
abbrev blank : Session → List Place
blank w = replicate (places_of w.settings) Empty

-- an open of an honest cabin that was not open, if it is accepted
abbrev play_open : Bool → Option Seat → Result State ℕ → Session → Moment → ℕ → ℕ → Moment
play_open true None (Ok c) w x i v = after_open x i v c (open_table (Ok c) (blank w))
play_open true None (Err k) w x i v = x
play_open true (Some seat) answer w x i v = x
play_open false seat answer w x i v = x

-- an announce is made with a sealer of zeros, into a buffer of zeros
abbrev quiet : State → Sealing
quiet c = record { owner = c.number; last = c.settings.phases; seals = λ φ v. zero_word }

-- the packet of the cabin's own record
abbrev own_packet : State → List ℕ
own_packet c = record_bytes (own_content c (quiet c)).fields zero_word

abbrev buffer : List ℕ
buffer = replicate 1440 0

-- without support, and with numbers of two bytes: so a cabin announces here
abbrev alone : State → Bool
alone c = not (with_support c) && (ltb c.branch 65536 && ltb c.phase 65536)

-- an announce of an honest cabin of its record alone, if it is accepted
abbrev play_announce : Bool → Bool → Result (Unit {0}) ℕ → Seat → Moment → ℕ → Moment
play_announce true true (Ok done) seat x i = after_announce x i (announce_state (Ok tt) seat.state) seat.table (own_packet seat.state)
play_announce true true (Err k) seat x i = x
play_announce true false answer seat x i = x
play_announce false lawful answer seat x i = x

-- the same of a cabin that is open
abbrev play_announce_of : Bool → Option Seat → Moment → ℕ → Moment
play_announce_of honest None x i = x
play_announce_of honest (Some seat) x i = play_announce honest (alone seat.state) (announce_answer seat.state seat.table (quiet seat.state) buffer) seat x i

-- a packet is heard with a check that passes what was announced, and with one bit to toss
abbrev knowing : Moment → Check
knowing x j φ v word = x.announced j φ v

abbrev one_bit : List ℕ
one_bit = 1 ∷ []

-- a hear of an honest cabin, if it is accepted
abbrev play_hear : Bool → Seat → Result Told ℕ → Moment → ℕ → List ℕ → Moment
play_hear true seat (Ok told) x i p =
    after_hear x i seat.state (hear_state (knowing x) seat.state seat.table p one_bit (Ok told)) (hear_table (knowing x) seat.state seat.table p (Ok told))
play_hear true seat (Err k) x i p = x
play_hear false seat answer x i p = x

-- the same of a cabin that is open
abbrev play_hear_of : Bool → Option Seat → Moment → ℕ → List ℕ → Moment
play_hear_of honest None x i p = x
play_hear_of honest (Some seat) x i p = play_hear honest seat (hear_answer (knowing x) seat.state seat.table p one_bit) x i p

-- a call that is refused leaves the moment as it was
abbrev play : Session → Moment → Call → Moment
play w x (opening i v) = play_open (w.honest i) (x.seat i) (open_answer w.settings i w.branch v (blank w)) w x i v
play w x (announcing i) = play_announce_of (w.honest i) (x.seat i) x i
play w x (hearing i p) = play_hear_of (w.honest i) (x.seat i) x i p

-- the calls of a list, one after another
abbrev pub played : Session → Moment → List Call → Moment
played w x [] = x
played w x (call ∷ calls) = played w (play w x call) calls

-- an open that is played is a step
run_open : (w : Session) (x : Moment) (i v : ℕ) (honest : Bool) (seat : Option Seat) (answer : Result State ℕ)
    → w.honest i ≡ honest → x.seat i ≡ seat → open_answer w.settings i w.branch v (blank w) ≡ answer
    → Run w x → Run w (play_open honest seat answer w x i v)
run_open w x i v true None (Ok c) hi closed accepts run = then x _ run (opens x i v (blank w) c hi closed accepts)
run_open w x i v true None (Err k) hi closed accepts run = run
run_open w x i v true (Some seat) answer hi closed accepts run = run
run_open w x i v false seat answer hi closed accepts run = run

-- the buffer after an announce that is played
abbrev own_buffer : State → List ℕ
own_buffer c = own_packet c ++ replicate 1400 0

-- its one record is the cabin's own
own_bytes : (c : State) (t : List Place) (j : ℕ) → j ≤ 0 → record_at (own_buffer c) j ≡ record_bytes (said_at c t (quiet c) [] j).fields (said_at c t (quiet c) [] j).word
own_bytes c t zero h = refl
own_bytes c t (suc j) h = absurd (omega arith)

-- and reads back
own_reads : (c : State) (t : List Place) → c.branch < 65536 → c.phase < 65536 → (j : ℕ) → j ≤ 0
    → read_answer c.settings c.branch (take 40 (own_buffer c)) j ≡ shown_as (eqb j 0) (said_at c t (quiet c) [] j).word (judged c.settings c.branch (said_at c t (quiet c) [] j).fields)
own_reads c t branch phase zero h = ap (shown_as true zero_word) (answer_of_bytes c.settings c.branch (own_content c (quiet c)).fields zero_word (branch, phase))
own_reads c t branch phase (suc j) h = absurd (omega arith)

-- the packet of an announce that is played
announced_alone : (c : State) (t : List Place) → alone c ≡ true → Announced c t (quiet c) buffer (own_buffer c) 40
announced_alone c t lawful =
    let a = and_parts (not (with_support c)) (ltb c.branch 65536 && ltb c.phase 65536) lawful in
    let b = and_parts (ltb c.branch 65536) (ltb c.phase 65536) a.1 in
    let bare = not-true (with_support c) a.0 in
    record {
      places = [];
      alone = λ h. refl;
      supports = λ h. absurd (both_ways (with_support c) bare h);
      size_is = refl;
      bytes = own_bytes c t;
      long = refl;
      rest = refl;
      reads = own_reads c t (ltb-true c.branch 65536 b.0) (ltb-true c.phase 65536 b.1);
    }

-- an announce that is played is a step
run_announce : (w : Session) (x : Moment) (i : ℕ) (seat : Seat) (honest lawful : Bool) (answer : Result (Unit {0}) ℕ)
    → w.honest i ≡ honest → x.seat i ≡ Some seat → alone seat.state ≡ lawful → announce_answer seat.state seat.table (quiet seat.state) buffer ≡ answer
    → Run w x → Run w (play_announce honest lawful answer seat x i)
run_announce w x i seat true true (Ok done) hi here lawful accepts run =
    then x _ run (announces x i 40 seat (quiet seat.state) buffer (own_buffer seat.state) hi here accepts (announced_alone seat.state seat.table lawful))
run_announce w x i seat true true (Err k) hi here lawful accepts run = run
run_announce w x i seat true false answer hi here lawful accepts run = run
run_announce w x i seat false lawful answer hi here bare accepts run = run

-- the same of a cabin that is open
run_announce_of : (w : Session) (x : Moment) (i : ℕ) (seat : Option Seat) → x.seat i ≡ seat → Run w x → Run w (play_announce_of (w.honest i) seat x i)
run_announce_of w x i None here run = run
run_announce_of w x i (Some seat) here run =
    run_announce w x i seat (w.honest i) (alone seat.state) (announce_answer seat.state seat.table (quiet seat.state) buffer) refl here refl refl run

-- a hear that is played is a step: what its check passes was announced
run_hear : (w : Session) (x : Moment) (i : ℕ) (p : List ℕ) (seat : Seat) (honest : Bool) (answer : Result Told ℕ)
    → w.honest i ≡ honest → x.seat i ≡ Some seat → hear_answer (knowing x) seat.state seat.table p one_bit ≡ answer
    → Run w x → Run w (play_hear honest seat answer x i p)
run_hear w x i p seat true (Ok told) hi here accepts run =
    then x _ run (hears x i seat p one_bit (knowing x) told hi here accepts refl (λ k r reads passes honest. passes))
run_hear w x i p seat true (Err k) hi here accepts run = run
run_hear w x i p seat false answer hi here accepts run = run

-- the same of a cabin that is open
run_hear_of : (w : Session) (x : Moment) (i : ℕ) (p : List ℕ) (seat : Option Seat) → x.seat i ≡ seat → Run w x → Run w (play_hear_of (w.honest i) seat x i p)
run_hear_of w x i p None here run = run
run_hear_of w x i p (Some seat) here run = run_hear w x i p seat (w.honest i) (hear_answer (knowing x) seat.state seat.table p one_bit) refl here refl run

-- each call that is played goes on with a run
run_play : (w : Session) (x : Moment) (call : Call) → Run w x → Run w (play w x call)
run_play w x (opening i v) run = run_open w x i v (w.honest i) (x.seat i) (open_answer w.settings i w.branch v (blank w)) refl refl refl run
run_play w x (announcing i) run = run_announce_of w x i (x.seat i) refl run
run_play w x (hearing i p) run = run_hear_of w x i p (x.seat i) refl run

-- and so do all of them
pub run_played : (w : Session) (x : Moment) (calls : List Call) → Run w x → Run w (played w x calls)
run_played w x [] run = run
run_played w x (call ∷ calls) run = run_played w (play w x call) calls (run_play w x call run)
