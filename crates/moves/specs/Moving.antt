-- How a cabin moves after a packet. Assumes nothing.
use Rattle.std.specs.Prelude.{ℕ, ◌+◌, ◌-◌, Bool, false, cond, not, ◌&&◌, ◌||◌, List, Some, None, Option, ◌==◌, nat_le, nat_lt}
use Rattle.std.specs.Bool.{then_some}
use Rattle.settings.specs.Kinds.{kind_of}
use Rattle.settings.specs.declared.kind.PhaseKind.{PhaseKind}
use Rattle.settings.specs.declared.kind.PhaseKind.TheVariants.{Converge, Lock, Decide}
use Rattle.settings.specs.declared.status.Status.{Status}
use Rattle.settings.specs.declared.status.Status.TheVariants.{Undecided, Decided}
use Rattle.coins.specs.Bits.{bits_after, first_bit}
use Rattle.agreement.specs.Rules.{Table, has_quorum, quorum}
use Rattle.packets.specs.declared.record.Fields.{Fields}
use Rattle.table.specs.Rules.{count_for, count_in, hall_of}
use Rattle.moves.specs.declared.state.State.{State}

-- a cabin, and the bits that its coin still has
pub record Moved : Type 0 where
  pub state : State
  pub bits : List ℕ

abbrev pub with_bits : State → List ℕ → Moved
with_bits c bits = record { state = c; bits = bits }

-- the cabin in another phase, with another value and status
abbrev pub at_phase : State → ℕ → ℕ → Status → State
at_phase c φ v status = record {
  settings = c.settings;
  number = c.number;
  branch = c.branch;
  phase = φ;
  value = v;
  status = status;
  decision = c.decision;
  announced = c.announced;
}

-- the cabin with another value and status in another phase; where the value is tossed, it is the coin's next bit
abbrev pub moves_to : Bool → Moved → ℕ → ℕ → Status → Moved
moves_to tossed m φ v status = record {
  state = at_phase m.state φ (cond tossed (first_bit m.bits) v) status;
  bits = cond tossed (bits_after m.bits) m.bits;
}

-- Catching up with a record: in CONVERGE its value is tossed unless it has a quorum in the LOCK phase before.
abbrev pub catch_tosses : PhaseKind → State → Table → Fields → Bool
catch_tosses Converge c t f = not (has_quorum (hall_of c.settings) t (f.phase - 2) f.value)
catch_tosses Lock c t f = false
catch_tosses Decide c t f = false

-- the value that is taken from the record, unless it is tossed
abbrev pub catch_value : PhaseKind → State → Table → Fields → Option ℕ
catch_value kind c t f = then_some (not (catch_tosses kind c t f)) f.value

abbrev pub caught_up : Table → Fields → Moved → Moved
caught_up t f m = moves_to (catch_tosses (kind_of f.phase) m.state t f) m f.phase f.value f.status

-- of the records kept now, one of the highest phase: caught up with where that is above the cabin's
abbrev pub catch_up : Table → Option Fields → Moved → Moved
catch_up t None m = m
catch_up t (Some f) m = cond (nat_lt m.state.phase f.phase) (caught_up t f m) m

-- Leaving a phase. From CONVERGE with the majority, and a tie is 0. From LOCK with a course that has a quorum, else with
-- no preference. From DECIDE with a course that has a quorum, else with one that was said, else by a toss.
abbrev pub leave_value : PhaseKind → State → Table → ℕ
leave_value Converge c t = cond (nat_lt (count_for c.settings t c.phase 0) (count_for c.settings t c.phase 1)) 1 0
leave_value Lock c t = cond (has_quorum (hall_of c.settings) t c.phase 0) 0 (cond (has_quorum (hall_of c.settings) t c.phase 1) 1 2)
leave_value Decide c t =
    cond (has_quorum (hall_of c.settings) t c.phase 0) 0 (cond (has_quorum (hall_of c.settings) t c.phase 1) 1 (cond (nat_le 1 (count_for c.settings t c.phase 0)) 0 1))

-- some course has a quorum in the cabin's phase
abbrev pub course_decided : State → Table → Bool
course_decided c t = has_quorum (hall_of c.settings) t c.phase 0 || has_quorum (hall_of c.settings) t c.phase 1

-- only in DECIDE, where no course was said
abbrev pub leave_tosses : PhaseKind → State → Table → Bool
leave_tosses Converge c t = false
leave_tosses Lock c t = false
leave_tosses Decide c t = count_for c.settings t c.phase 0 == 0 && count_for c.settings t c.phase 1 == 0

-- the value with which a phase is left, unless it is tossed
abbrev pub value_after : PhaseKind → State → Table → Option ℕ
value_after kind c t = then_some (not (leave_tosses kind c t)) (leave_value kind c t)

-- the lower course for which a test holds, if there is one
abbrev pub course_where : (ℕ → Bool) → Option ℕ
course_where holds = cond (holds 0) (Some 0) (cond (holds 1) (Some 1) None)

-- only from DECIDE, with a course that has a quorum, the status becomes decided
abbrev pub leave_status : PhaseKind → State → Table → Status
leave_status Converge c t = c.status
leave_status Lock c t = c.status
leave_status Decide c t = cond (course_decided c t) Decided c.status

abbrev pub left_phase : Table → Moved → Moved
left_phase t m =
    moves_to (leave_tosses (kind_of m.state.phase) m.state t) m (m.state.phase + 1) (leave_value (kind_of m.state.phase) m.state t) (leave_status (kind_of m.state.phase) m.state t)

-- with a quorum in its phase the cabin leaves it
abbrev pub leave : Table → Moved → Moved
leave t m = cond (nat_le (quorum (hall_of m.state.settings)) (count_in m.state.settings t m.state.phase)) (left_phase t m) m

-- the decision is filled once: by a course, where the status is decided
abbrev pub decision_of : Option ℕ → Status → ℕ → Option ℕ
decision_of (Some w) status v = Some w
decision_of None Undecided v = None
decision_of None Decided v = cond (nat_lt v 2) (Some v) None

-- a change from phase φ clears the mark, and the decision is filled
abbrev pub settled : ℕ → State → State
settled φ c = record {
  settings = c.settings;
  number = c.number;
  branch = c.branch;
  phase = c.phase;
  value = c.value;
  status = c.status;
  decision = decision_of c.decision c.status c.value;
  announced = c.announced && (c.phase == φ);
}

-- the whole move, by the records of the table and the record to catch up with
abbrev pub moved : Table → Option Fields → Moved → Moved
moved t ahead m =
    record { state = settled m.state.phase (leave t (catch_up t ahead m)).state; bits = (leave t (catch_up t ahead m)).bits }
