-- Which entries a list of the right length has.
use Rattle.std.proofs.Common.{◌≡◌, ℕ, ◌+◌, ◌-◌, ◌*◌, ◌<◌, ◌≤◌, true, false, ◌&&◌, ltb, leb, List, length, ◌∙◌, mul_assoc, arith}
use Rattle.std.proofs.Math.Nat.{add-sub_cancel_left}
use Rattle.std.proofs.lemmas.Nat.{mul-add-lt}
use Rattle.std.proofs.lemmas.List.Edits.{length-between}
use Rattle.std.proofs.lemmas.Bool.{and_left, and_parts, and_right, cond-false, cond-true, leb-true, le-leb, lt-ltb}
use Rattle.words.specs.Checks.{ListView, entry_bytes, entry_or_zeros, entry_place, has_entry, holds_entry, in_range, plain_answers}
use Rattle.words.specs.Words.{zero_word}
use Rattle.words.proofs.Bytes.{same_itself}

-- the entry of a lawful cabin, phase and value lies within 96 bytes for each cabin and phase
pub entry_within : (n p i φ v : ℕ) → i < n → 1 ≤ φ → φ ≤ p → v ≤ 2 → entry_place n i φ v + 32 ≤ 96 * n * p
entry_within n p i φ v seated begun ended valued =
    let same : 96 * n ≡ 32 * (3 * n) = omega arith in
    let row = mul-add-lt (φ - 1) (3 * n) (3 * i + v) p (omega arith) (omega arith) in
    rw (same, mul_assoc 32 (3 * n) p) (omega arith)

-- so a list of that length has the entry of each lawful cabin, phase and value
pub has_entry_within : (l : ListView) (i φ v : ℕ) → i < l.cabins → length l.entries ≡ 96 * l.cabins * l.phases → in_range l.phases φ v ≡ true → has_entry l i φ v ≡ true
has_entry_within l i φ v seated whole lawful =
    let begun = and_parts (leb 1 φ) (leb φ l.phases && leb v 2) lawful in
    let ended = and_parts (leb φ l.phases) (leb v 2) begun.1 in
    let within : entry_place l.cabins i φ v + 32 ≤ length l.entries = rw whole (entry_within l.cabins l.phases i φ v seated (leb-true 1 φ begun.0) (leb-true φ l.phases ended.0) (leb-true v 2 ended.1)) in
    rw (lt-ltb i l.cabins seated, lawful) (le-leb _ _ within)

-- and no entry of another phase or value
pub has_no_entry : (l : ListView) (i φ v : ℕ) → in_range l.phases φ v ≡ false → has_entry l i φ v ≡ false
has_no_entry l i φ v unlawful = and_right (ltb i l.cabins) _ (and_left (in_range l.phases φ v) _ unlawful)

-- an entry has 32 bytes
pub length_entry : (l : ListView) (i φ v : ℕ) → has_entry l i φ v ≡ true → length (entry_bytes l i φ v) ≡ 32
length_entry l i φ v has =
    let place = entry_place l.cabins i φ v in
    let rest = and_parts (ltb i l.cabins) (in_range l.phases φ v && leb (place + 32) (length l.entries)) has in
    let fits = and_parts (in_range l.phases φ v) (leb (place + 32) (length l.entries)) rest.1 in
    length-between l.entries place (place + 32) (leb-true (place + 32) (length l.entries) fits.1) ∙ add-sub_cancel_left place 32

-- a plain list passes its own entry
pub entry_passes : (l : ListView) (i φ v : ℕ) → has_entry l i φ v ≡ true → plain_answers l i φ v (entry_bytes l i φ v) ≡ true
unfolding holds_entry
entry_passes l i φ v has = rw (length_entry l i φ v has, has) (same_itself (entry_bytes l i φ v))

-- so what a list gives for a lawful cabin, phase and value passes it
pub given_passes : (l : ListView) (i φ v : ℕ) (word : List ℕ) → i < l.cabins → length l.entries ≡ 96 * l.cabins * l.phases → word ≡ entry_or_zeros l i φ v → in_range l.phases φ v ≡ true → plain_answers l i φ v word ≡ true
given_passes l i φ v word seated whole given lawful =
    let has = has_entry_within l i φ v seated whole lawful in
    let entry : word ≡ entry_bytes l i φ v = given ∙ cond-true (has_entry l i φ v) (entry_bytes l i φ v) zero_word has in
    rw entry (entry_passes l i φ v has)

-- and what it gives for another phase or value is zeros
pub given_zeros : (l : ListView) (i φ v : ℕ) (word : List ℕ) → word ≡ entry_or_zeros l i φ v → in_range l.phases φ v ≡ false → word ≡ zero_word
given_zeros l i φ v word given unlawful =
    given ∙ cond-false (has_entry l i φ v) (entry_bytes l i φ v) zero_word (has_no_entry l i φ v unlawful)
