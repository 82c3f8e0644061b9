-- The two lists of words, and which words they pass. Assumes nothing.
use Rattle.std.specs.Prelude.{ℕ, ◌+◌, ◌-◌, ◌*◌, Bool, cond, ◌&&◌, List, [], length, Some, None, Ok, Option, Result, ◌==◌, nat_le, nat_lt}
use Rattle.std.specs.List.{between}
use Rattle.std.specs.Str.{bytes_eq}
use Rattle.settings.specs.Refusals.{needs}
use Rattle.settings.specs.declared.settings.Settings.{Settings}
use Rattle.words.specs.Computation.{sha_256}
use Rattle.words.specs.Words.{zero_word}
use Rattle.words.specs.declared.form.Hashed.{Hashed}
use Rattle.words.specs.declared.form.Plain.{Plain}
use Rattle.words.specs.declared.list.WordList.{WordList}

-- two lists of bytes are the same
abbrev pub same_bytes : List ℕ → List ℕ → Bool
same_bytes = bytes_eq

-- a list of entries of 32 bytes, for so many cabins and phases
pub record ListView : Type 0 where
  pub cabins : ℕ
  pub phases : ℕ
  pub entries : List ℕ

abbrev pub list_view : {F : Type 0} → WordList F → ListView
list_view l = record { cabins = l.cabins; phases = l.phases; entries = l.entries.now }

-- a list of no phase, which has no entry
abbrev pub empty_list : ListView
empty_list = record { cabins = 1; phases = 0; entries = [] }

-- making a list: refusal 6 for another length than 96 bytes for each cabin and phase
abbrev pub list_answer : Settings → List ℕ → Result ListView ℕ
list_answer s entries =
    needs (length entries == 96 * s.cabins * s.phases) 6 (Ok (record { cabins = s.cabins; phases = s.phases; entries = entries }))

-- where the entry for cabin i, phase φ and value v starts, among n cabins
abbrev pub entry_place : ℕ → ℕ → ℕ → ℕ → ℕ
entry_place n i φ v = 32 * ((φ - 1) * (3 * n) + 3 * i + v)

-- a phase from 1 to the last, and a value from 0 to 2
abbrev pub in_range : ℕ → ℕ → ℕ → Bool
in_range last φ v = nat_le 1 φ && (nat_le φ last && nat_le v 2)

-- the list has an entry for the cabin, the phase and the value
abbrev pub has_entry : ListView → ℕ → ℕ → ℕ → Bool
has_entry l i φ v =
    nat_lt i l.cabins && (in_range l.phases φ v && nat_le (entry_place l.cabins i φ v + 32) (length l.entries))

-- the 32 bytes where that entry is
abbrev pub entry_bytes : ListView → ℕ → ℕ → ℕ → List ℕ
entry_bytes l i φ v = between (entry_place l.cabins i φ v) (entry_place l.cabins i φ v + 32) l.entries

-- the entry, if the list has one
abbrev pub entry_at : ListView → ℕ → ℕ → ℕ → Option (List ℕ)
entry_at l i φ v = cond (has_entry l i φ v) (Some (entry_bytes l i φ v)) None

-- the entry, or zeros where there is none
abbrev pub entry_or_zeros : ListView → ℕ → ℕ → ℕ → List ℕ
entry_or_zeros l i φ v = cond (has_entry l i φ v) (entry_bytes l i φ v) zero_word

-- the list has an entry for the cabin, the phase and the value that is these bytes
unfoldable pub holds_entry : ListView → ℕ → ℕ → ℕ → List ℕ → Bool
holds_entry l i φ v bytes = has_entry l i φ v && same_bytes bytes (entry_bytes l i φ v)

-- a word of 32 bytes passes if the list holds the entry for it
abbrev pub list_answers : (List ℕ → List ℕ) → ListView → ℕ → ℕ → ℕ → List ℕ → Bool
list_answers entry_for l i φ v word = length word == 32 && holds_entry l i φ v (entry_for word)

-- the plain list passes a word of 32 bytes that is its entry
abbrev pub plain_answers : ListView → ℕ → ℕ → ℕ → List ℕ → Bool
plain_answers = list_answers (λ word. word)

-- the hashed list passes a word of 32 bytes whose SHA-256 is its entry
abbrev pub hashed_answers : ListView → ℕ → ℕ → ℕ → List ℕ → Bool
hashed_answers = list_answers sha_256

abbrev pub plain_view : WordList Plain → ListView
plain_view = list_view

abbrev pub hashed_view : WordList Hashed → ListView
hashed_view = list_view
