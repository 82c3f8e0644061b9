-- What is known of a cabin and of a packet that it heard: the facts that each call keeps.
use Rattle.std.proofs.Common.{◌≡◌, ℕ, ◌<◌, ◌≤◌, Bool, true, false, ◌⊎◌, List, length, Some, Ok, Option}
use Rattle.settings.specs.declared.settings.Settings.{Settings}
use Rattle.agreement.specs.Rules.{Hall, Table, is_valid}
use Rattle.agreement.specs.Books.{Once, Within}
use Rattle.agreement.specs.History.{DecideQuorum}
use Rattle.agreement.specs.Status.{OpenAfter, Split, last_decide, status_rule}
use Rattle.packets.specs.Packets.{Shown, read_answer}
use Rattle.packets.specs.declared.record.Fields.{Fields}
use Rattle.table.specs.Places.{records_of}
use Rattle.table.specs.Rules.{hall_of, is_decided}
use Rattle.table.specs.declared.place.Place.{Place}
use Rattle.moves.specs.Judging.{Check}
use Rattle.moves.specs.declared.state.State.{State}

-- where a cabin that has kept the records `ever` stands
pub record Stands (hall : Hall) (ever : Table) (phase value : ℕ) (decided : Bool) (decision : Option ℕ) : Type 0 where
  pub begun : 1 ≤ phase
  -- its value is valid in its phase
  pub valid : Once ever (λ t. is_valid hall t phase value)
  -- a decision rests on a quorum in an earlier DECIDE phase
  pub rests : (v : ℕ) → decision ≡ Some v → (d : ℕ) × (d < phase) × DecideQuorum hall ever d v
  -- so does the value where the status is decided, and a decision is held then
  pub backed : decided ≡ true → (d : ℕ) × (d < phase) × DecideQuorum hall ever d value
  pub held : decided ≡ true → (v : ℕ) × (decision ≡ Some v)
  -- beyond phase 3 it is undecided only where its last DECIDE phase was split or undecided was supported after it
  pub undecided : decided ≡ false → 3 < phase → Split hall ever (last_decide phase) ⊎ OpenAfter hall ever (last_decide phase)

-- a record that was kept: it was valid and met the status rule at some table within `ever`
pub record Backed (s : Settings) (ever : Table) (f : Fields) : Type 0 where
  pub within : f.phase ≤ s.phases
  pub valid : Once ever (λ t. is_valid (hall_of s) t f.phase f.value)
  pub status : Once ever (λ t. status_rule (hall_of s) t f.phase f.value (is_decided f.status))

-- a record for phase φ of cabin j with value v stands in the packet p, and its word passed
pub record Passed (check : Check) (c : State) (p : List ℕ) (φ j v : ℕ) : Type 0 where
  pub place : ℕ
  pub shown : Shown
  pub reads : read_answer c.settings c.branch p place ≡ Ok shown
  pub passes : check shown.fields.cabin shown.fields.phase shown.fields.value shown.word ≡ true
  pub phase_is : shown.fields.phase ≡ φ
  pub cabin_is : shown.fields.cabin ≡ j
  pub value_is : shown.fields.value ≡ v

-- the records of a packet were heard at the table t, which is t' then, and `ahead` is the record to catch up with
pub record HeardWell (check : Check) (c : State) (t t' : List Place) (p : List ℕ) (ahead : Option Fields) : Type 0 where
  pub size : length t' ≡ length t
  -- the table keeps what it has
  pub grown : Within (records_of c.settings t) (records_of c.settings t')
  -- what is new in it passed its check, and was valid
  pub new : (φ j v : ℕ) → records_of c.settings t' φ j v ≡ true
      → (records_of c.settings t φ j v ≡ true) ⊎ (Passed check c p φ j v × Once (records_of c.settings t') (λ u. is_valid (hall_of c.settings) u φ v))
  pub ahead_backed : (f : Fields) → ahead ≡ Some f → Backed c.settings (records_of c.settings t') f
