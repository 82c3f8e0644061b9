-- The records of a packet while they are heard. Assumes nothing.
use Rattle.std.specs.Prelude.{ℕ, ◌+◌, List, Ok, Err, Result}
use Rattle.packets.specs.Packets.{Shown}
use Rattle.packets.specs.declared.record.Fields.{Fields}
use Rattle.table.specs.declared.place.Place.{Place}
use Rattle.moves.specs.Hearing.{Progress, beginning, counted, heard_one, turned_away}
use Rattle.moves.specs.Judging.{Check, found}
use Rattle.moves.specs.declared.fault.Finding.{Finding}
use Rattle.moves.specs.declared.state.State.{State}

abbrev pub with_fields : Fields → Result Finding ℕ → Result (Finding × Fields) ℕ
with_fields f (Ok x) = Ok (x, f)
with_fields f (Err k) = Err k

-- what is found of a record and what it says, by how it reads
abbrev pub found_of : Check → State → List Place → Result Shown ℕ → Result (Finding × Fields) ℕ
found_of check c t (Ok r) = with_fields r.fields (found check c.settings t r.fields r.word)
found_of check c t (Err k) = Err k

-- the table after it
abbrev pub table_after : Check → State → List Place → Result Shown ℕ → List Place
table_after check c t answer = (heard_one check c 0 answer (record { progress = beginning; table = t })).table

-- the record at a place of the packet is counted
abbrev pub counted_with : ℕ → Result (Finding × Fields) ℕ → Progress → Progress
counted_with place (Ok x) p = counted x.0 x.1 p
counted_with place (Err k) p = turned_away k place p

-- how many records were counted so far
abbrev pub records_counted : Progress → ℕ
records_counted p = p.kept + p.known + p.turned
