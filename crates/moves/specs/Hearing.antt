-- What hearing a packet answers, and what it leaves. Assumes nothing.
use Rattle.std.specs.Prelude.{ℕ, zero, suc, ◌+◌, cond, List, length, Some, None, Ok, Err, Option, Result, ◌==◌, nat_le, slice_set}
use Rattle.settings.specs.Refusals.{needs}
use Rattle.packets.specs.Packets.{Shown, packet_lawful, places_in, read_answer}
use Rattle.packets.specs.declared.record.Fields.{Fields}
use Rattle.table.specs.Places.{place_of, places_of, records_of}
use Rattle.table.specs.declared.place.Place.{Place}
use Rattle.table.specs.declared.place.Place.TheVariants.{Filled}
use Rattle.moves.specs.Judging.{Check, FaultView, fault_at, found}
use Rattle.moves.specs.Moving.{Moved, moved, with_bits}
use Rattle.moves.specs.declared.fault.Finding.{Finding}
use Rattle.moves.specs.declared.fault.Finding.TheVariants.{New, Known}
use Rattle.moves.specs.declared.state.State.{State}

-- how far a hearing has come: how many records were kept, known and turned away, the first fault, and of the records
-- kept the last one of the highest phase
pub record Progress : Type 0 where
  pub kept : ℕ
  pub known : ℕ
  pub turned : ℕ
  pub fault : Option FaultView
  pub ahead : Option Fields

-- and the table so far
pub record Hearing : Type 0 where
  pub progress : Progress
  pub table : List Place

abbrev pub beginning : Progress
beginning = record { kept = 0; known = 0; turned = 0; fault = None; ahead = None }

-- the first fault stays
abbrev pub first_fault : Option FaultView → FaultView → Option FaultView
first_fault None x = Some x
first_fault (Some y) x = Some y

-- of two records the one of the higher phase, and of one phase the later
abbrev pub further : Option Fields → Fields → Option Fields
further None f = Some f
further (Some g) f = cond (nat_le g.phase f.phase) (Some f) (Some g)

-- a record was found new, or known
abbrev pub counted : Finding → Fields → Progress → Progress
counted New f x = record { kept = x.kept + 1; known = x.known; turned = x.turned; fault = x.fault; ahead = further x.ahead f }
counted Known f x = record { kept = x.kept; known = x.known + 1; turned = x.turned; fault = x.fault; ahead = x.ahead }

-- the record at a place was turned away with refusal k
abbrev pub turned_away : ℕ → ℕ → Progress → Progress
turned_away k place x = record { kept = x.kept; known = x.known; turned = x.turned + 1; fault = first_fault x.fault (fault_at k place); ahead = x.ahead }

-- a new record fills its place of the table
abbrev pub kept_in : State → Finding → Fields → List ℕ → List Place → List Place
kept_in c New f w t = slice_set t (place_of c.settings f.phase f.cabin f.value) (Filled f.status w)
kept_in c Known f w t = t

-- a record of a lawful frame, by what was found of it
abbrev pub taken : State → ℕ → Fields → List ℕ → Result Finding ℕ → Hearing → Hearing
taken c place f w (Ok finding) h = record { progress = counted finding f h.progress; table = kept_in c finding f w h.table }
taken c place f w (Err k) h = record { progress = turned_away k place h.progress; table = h.table }

-- a record, by how it reads
abbrev pub heard_one : Check → State → ℕ → Result Shown ℕ → Hearing → Hearing
heard_one check c place (Ok r) h = taken c place r.fields r.word (found check c.settings h.table r.fields r.word) h
heard_one check c place (Err k) h = record { progress = turned_away k place h.progress; table = h.table }

-- the first k records of a packet
unfoldable pub heard_to : Check → State → List Place → List ℕ → ℕ → Hearing
heard_to check c t p zero = record { progress = beginning; table = t }
heard_to check c t p (suc k) = heard_one check c k (read_answer c.settings c.branch p k) (heard_to check c t p k)

-- all of them
abbrev pub heard : Check → State → List Place → List ℕ → Hearing
heard check c t p = heard_to check c t p (places_in p)

-- the cabin and its coin's bits after the packet
abbrev pub heard_moved : Check → State → List Place → List ℕ → List ℕ → Moved
heard_moved check c t p bits =
    moved (records_of c.settings (heard check c t p).table) (heard check c t p).progress.ahead (with_bits c bits)

-- what hearing tells: how many records were kept, known and turned away, and the first fault
pub record Told : Type 0 where
  pub tallies : ℕ × ℕ × ℕ
  pub fault : Option FaultView

abbrev pub telling : Progress → Told
telling x = record { tallies = (x.kept, x.known, x.turned); fault = x.fault }

-- refusal 5 for the table's size, 17 for a coin with no bit left, 10 for the packet's size
abbrev pub hear_answer : Check → State → List Place → List ℕ → List ℕ → Result Told ℕ
hear_answer check c t p bits =
    needs (length t == places_of c.settings) 5
    (needs (nat_le 1 (length bits)) 17
    (needs (packet_lawful p) 10 (Ok (telling (heard check c t p).progress))))

-- an accepted hearing leaves what the definitions above say, a refused one all as it was
abbrev pub hear_state : Check → State → List Place → List ℕ → List ℕ → Result Told ℕ → State
hear_state check c t p bits (Ok x) = (heard_moved check c t p bits).state
hear_state check c t p bits (Err k) = c

abbrev pub hear_table : Check → State → List Place → List ℕ → Result Told ℕ → List Place
hear_table check c t p (Ok x) = (heard check c t p).table
hear_table check c t p (Err k) = t

abbrev pub hear_bits : Check → State → List Place → List ℕ → List ℕ → Result Told ℕ → List ℕ
hear_bits check c t p bits (Ok x) = (heard_moved check c t p bits).bits
hear_bits check c t p bits (Err k) = bits
