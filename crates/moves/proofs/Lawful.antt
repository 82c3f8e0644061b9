-- A record that was read has lawful fields, and a table has a place for it.
use Rattle.std.proofs.Common.{◌≡◌, ℕ, ◌%◌, ◌≤◌, Bool, true, eqb, ltb, leb, ◌⊎◌, List, Ok, Err, Result, arith}
use Rattle.settings.specs.declared.settings.Settings.{Settings}
use Rattle.agreement.specs.Rules.{is_lawful}
use Rattle.agreement.specs.TwoWay.{two_way}
use Rattle.agreement.proofs.Rules.{kind_converge, kind_decide, kind_lock}
use Rattle.packets.specs.Packets.{Shown, read_answer, shown_as}
use Rattle.packets.specs.Records.{fields_lawful, highest_value}
use Rattle.packets.specs.declared.record.Fields.{Fields}
use Rattle.table.specs.Places.{in_table}
use Rattle.table.specs.Rules.{hall_of}

-- a record that was read has the fields that were judged
shown_fields : (last : Bool) (w : List ℕ) (answer : Result Fields ℕ) (r : Shown) → shown_as last w answer ≡ Ok r → answer ≡ Ok r.fields
shown_fields last w (Ok f) r e = cc
shown_fields last w (Err k) r e = cc

-- the fields of a record that was read are lawful
pub read_lawful : (s : Settings) (b : ℕ) (p : List ℕ) (k : ℕ) (r : Shown) → read_answer s b p k ≡ Ok r → fields_lawful s r.fields ≡ true
read_lawful s b p k r e = grind arith

-- what lawful fields say
pub record Lawful (s : Settings) (f : Fields) : Type 0 where
  pub cabin : ltb f.cabin s.cabins ≡ true
  pub from : leb 1 f.phase ≡ true
  pub to : leb f.phase s.phases ≡ true
  pub value : f.value ≤ highest_value f.phase

-- the tests of lawful fields, one by one
pub lawful_parts : (s : Settings) (f : Fields) → fields_lawful s f ≡ true → Lawful s f
lawful_parts s f e = record { cabin = grind arith; from = grind arith; to = grind arith; value = grind arith }

-- a value is at most 1, or at most 2 in a DECIDE phase
values : (φ : ℕ) → (highest_value φ ≡ 1) ⊎ ((highest_value φ ≡ 2) × (eqb (φ % 3) 0 ≡ true))
values φ = grind (arith, kind_converge, kind_decide, kind_lock)

-- the table has a place for lawful fields
pub in_place : (s : Settings) (f : Fields) → Lawful s f → in_table s f.phase f.cabin f.value ≡ true
in_place s f l = grind (arith, values f.phase)

-- lawful fields are lawful in the hall
pub lawful_in_hall : (s : Settings) (f : Fields) → Lawful s f → is_lawful (hall_of s) f.phase f.value ≡ true
unfolding two_way
lawful_in_hall s f l = grind (arith, values f.phase)
