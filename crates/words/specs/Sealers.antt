-- What the two sealers seal, and what making one answers. Assumes nothing.
use Rattle.std.specs.Prelude.{ℕ, ◌*◌, List, [], length, Ok, Err, Result, ◌==◌, nat_lt}
use Rattle.settings.specs.Refusals.{needs}
use Rattle.settings.specs.declared.settings.Settings.{Settings}
use Rattle.words.specs.Checks.{ListView, empty_list, entry_or_zeros, list_answer, list_view}
use Rattle.words.specs.Own.{own_or_zeros, own_pass}
use Rattle.words.specs.declared.cabin_entries.CabinEntries.{CabinEntries}
use Rattle.words.specs.declared.form.Plain.{Plain}
use Rattle.words.specs.declared.hashed.HashedSealer.{HashedSealer}

-- the entries of one cabin: the cabin and the list that they are in
pub record CabinView : Type 0 where
  pub cabin : ℕ
  pub list : ListView

abbrev pub cabin_view : {F : Type 0} → CabinEntries F → CabinView
cabin_view c = record { cabin = c.cabin; list = list_view c.list }

-- the entries of cabin 0 in a list of no phase
abbrev pub empty_cabin : CabinView
empty_cabin = record { cabin = 0; list = empty_list }

-- the entries of a cabin in a list
abbrev pub cabin_of : ℕ → Result ListView ℕ → Result CabinView ℕ
cabin_of i (Ok list) = Ok (record { cabin = i; list = list })
cabin_of i (Err k) = Err k

-- refusal 3 for the cabin, then 6 for the list's length
abbrev pub cabin_answer : Settings → ℕ → List ℕ → Result CabinView ℕ
cabin_answer s i entries = needs (nat_lt i s.cabins) 3 (cabin_of i (list_answer s entries))

-- the host's place after a make: the sealer that was made, or what it held
abbrev pub place_after : {V : Type 0} → Result V ℕ → V → V
place_after (Ok made) held = made
place_after (Err k) held = held

-- a plain sealer: the cabin that it seals for, and its list
abbrev pub PlainView : Type 0
PlainView = CabinView

abbrev pub plain_sealer_view : CabinEntries Plain → PlainView
plain_sealer_view = cabin_view

-- the empty sealer: of cabin 0 with last phase 0
abbrev pub empty_plain : PlainView
empty_plain = empty_cabin

-- making a plain sealer: refusal 3 for the cabin, then 6 for the list's length
abbrev pub make_plain : Settings → ℕ → List ℕ → Result PlainView ℕ
make_plain = cabin_answer

-- the word of a plain sealer: its cabin's entry, or zeros where there is none
abbrev pub plain_seals : PlainView → ℕ → ℕ → List ℕ
plain_seals s φ v = entry_or_zeros s.list s.cabin φ v

-- a hashed sealer: the cabin that it seals for, its list and the cabin's own words
pub record HashedView : Type 0 where
  pub cabin : ℕ
  pub list : ListView
  pub own : List ℕ

abbrev pub hashed_sealer_view : HashedSealer → HashedView
hashed_sealer_view s = record { cabin = s.entries.cabin; list = list_view s.entries.list; own = s.own.now }

abbrev pub empty_hashed : HashedView
empty_hashed = record { cabin = 0; list = empty_list; own = [] }

-- the sealer of a cabin of a list by own words: refusal 6 for their length, then 7 for one that does not pass
abbrev pub hashed_of : List ℕ → Result CabinView ℕ → Result HashedView ℕ
hashed_of own (Ok c) =
    needs (length own == 96 * c.list.phases) 6 (needs (own_pass c.list c.cabin own (3 * c.list.phases)) 7 (Ok (record { cabin = c.cabin; list = c.list; own = own })))
hashed_of own (Err k) = Err k

-- making a hashed sealer: refusal 3 for the cabin, 6 for the list's length or the own words', 7 for an own word
abbrev pub make_hashed : Settings → ℕ → List ℕ → List ℕ → Result HashedView ℕ
make_hashed s i entries own = hashed_of own (cabin_answer s i entries)

-- the word of a hashed sealer: its own word, or zeros where there is none
abbrev pub hashed_seals : HashedView → ℕ → ℕ → List ℕ
hashed_seals s φ v = own_or_zeros s.list.phases s.own φ v
