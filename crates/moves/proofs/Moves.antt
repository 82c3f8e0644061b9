-- What a move leaves as it is, and which phases it can leave.
use Rattle.std.proofs.Common.{◌≡◌, ℕ, ◌≤◌, List, Some, None, Option, refl, arith}
use Rattle.settings.specs.declared.settings.Settings.{Settings}
use Rattle.agreement.specs.Counting.{some}
use Rattle.agreement.specs.Rules.{Table, turnout}
use Rattle.agreement.specs.TwoWay.{two_way}
use Rattle.agreement.proofs.Counting.{count_member, some_found}
use Rattle.packets.specs.declared.record.Fields.{Fields}
use Rattle.table.specs.Places.{records_at, records_of}
use Rattle.table.specs.Rules.{count_in}
use Rattle.table.specs.declared.place.Place.{Place}
use Rattle.moves.specs.Moving.{Moved, catch_up}

-- beyond the last phase no cabin is counted
pub counted_within : (s : Settings) (t : List Place) (φ : ℕ) → 1 ≤ count_in s (records_of s t) φ → φ ≤ s.phases
unfolding two_way turnout records_at
counted_within s t φ more =
    let one = count_member (λ j. some (records_of s t φ j) 3) s.cabins more in
    let said = some_found (records_of s t φ one.0) 3 one.2 in
    let there = said.2 in
    grind arith

-- catching up changes no settings
pub catch_up_settings : (t : Table) (ahead : Option Fields) (m : Moved) → (catch_up t ahead m).state.settings ≡ m.state.settings
catch_up_settings t None m = refl
catch_up_settings t (Some f) m = grind arith
