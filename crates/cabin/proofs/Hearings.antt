-- The records of a packet, one more each time, and the whole hearing.
use Rattle.std.proofs.Common.{◌≡◌, ℕ, ◌+◌, ◌≤◌, true, List, length, Some, Ok, Err, Result, sym, refl, ap, ◌∙◌, add-one, arith}
use Rattle.settings.specs.declared.settings.Settings.{Settings}
use Rattle.agreement.specs.TwoWay.{two_way}
use Rattle.agreement.proofs.Rules.{valid_value}
use Rattle.packets.specs.Packets.{Shown, places_in, read_answer}
use Rattle.packets.specs.declared.record.Fields.{Fields}
use Rattle.table.specs.Places.{in_table, places_of}
use Rattle.table.specs.Rules.{hall_of}
use Rattle.table.specs.declared.place.Place.{Place}
use Rattle.moves.specs.Hearing.{Hearing, Progress, beginning, heard, heard_one, heard_to, taken}
use Rattle.moves.specs.Judging.{Check, found}
use Rattle.moves.specs.declared.fault.Finding.{Finding}
use Rattle.moves.specs.declared.fault.Finding.TheVariants.{Known, New}
use Rattle.moves.specs.declared.state.State.{State}
use Rattle.moves.proofs.Lawful.{in_place, lawful_parts, read_lawful}
use Rattle.runs.proofs.Folding.{heard_well}
use Rattle.cabin.specs.Records.{counted_with, found_of, records_counted, table_after, with_fields}
use Rattle.cabin.specs.Views.{hearing_of, tally_view}
use Rattle.cabin.specs.declared.tally.Tally.{Tally}

-- so many records were heard: the hearing is the definition's, and each record counts once
pub record HeardSoFar (check : Check) (c : State) (t : List Place) (p : List ℕ) (k : ℕ) (tally : Tally) (now : List Place) : Type 0 where
  pub hearing : hearing_of tally now ≡ heard_to check c t p k
  pub count : records_counted (tally_view tally) ≡ k

pub heard_none : (check : Check) (c : State) (t : List Place) (p : List ℕ) (tally : Tally) → tally_view tally ≡ beginning → HeardSoFar check c t p 0 tally t
unfolding heard_to
heard_none check c t p tally e =
    record { hearing = ap (λ (x : Progress). record { progress = x; table = t }) e; count = ap (λ (x : Progress). records_counted x) e }

counted_once : (k : ℕ) (x : Result (Finding × Fields) ℕ) (p : Progress) → records_counted (counted_with k x p) ≡ records_counted p + 1
counted_once k (Ok (New, f)) p = omega arith
counted_once k (Ok (Known, f)) p = omega arith
counted_once k (Err e) p = omega arith

taken_parts : (c : State) (k : ℕ) (f : Fields) (w : List ℕ) (x : Result Finding ℕ) (h : Hearing) → taken c k f w x h ≡ record { progress = counted_with k (with_fields f x) h.progress; table = (taken c 0 f w x (record { progress = beginning; table = h.table })).table }
taken_parts c k f w (Ok New) h = refl
taken_parts c k f w (Ok Known) h = refl
taken_parts c k f w (Err e) h = refl

-- what is found of a record is counted, and the table is left as it says
heard_parts : (check : Check) (c : State) (k : ℕ) (answer : Result Shown ℕ) (h : Hearing) → heard_one check c k answer h ≡ record { progress = counted_with k (found_of check c h.table answer) h.progress; table = table_after check c h.table answer }
heard_parts check c k (Ok r) h = taken_parts c k r.fields r.word (found check c.settings h.table r.fields r.word) h
heard_parts check c k (Err e) h = refl

pub heard_more : (check : Check) (c : State) (t : List Place) (p : List ℕ) (k : ℕ) (tally tally' : Tally) (now now' : List Place) (x : Result (Finding × Fields) ℕ) → HeardSoFar check c t p k tally now → x ≡ found_of check c now (read_answer c.settings c.branch p k) → now' ≡ table_after check c now (read_answer c.settings c.branch p k) → tally_view tally' ≡ counted_with k x (tally_view tally) → HeardSoFar check c t p (k + 1) tally' now'
unfolding heard_to
heard_more check c t p k tally tally' now now' x before answer table counts =
    let a : Result Shown ℕ = read_answer c.settings c.branch p k in
    let next : Progress = counted_with k (found_of check c now a) (tally_view tally) in
    let progress : tally_view tally' ≡ next = counts ∙ ap (λ (y : Result (Finding × Fields) ℕ). counted_with k y (tally_view tally)) answer in
    let both : hearing_of tally' now' ≡ record { progress = next; table = table_after check c now a } = ap (λ (y : Progress). record { progress = y; table = now' }) progress ∙ ap (λ (u : List Place). record { progress = next; table = u }) table in
    let last : heard_one check c k a (heard_to check c t p k) ≡ heard_to check c t p (k + 1) = sym (ap (heard_to check c t p) (add-one k)) in
    record {
      hearing = both ∙ (sym (heard_parts check c k a (hearing_of tally now)) ∙ (ap (heard_one check c k a) before.hearing ∙ last));
      count = ap (λ (y : Progress). records_counted y) counts ∙ (counted_once k x (tally_view tally) ∙ ap (λ (n : ℕ). n + 1) before.count);
    }

-- when all were heard
pub heard_all : (check : Check) (c : State) (t : List Place) (p : List ℕ) (k : ℕ) (tally : Tally) (now : List Place) → HeardSoFar check c t p k tally now → k ≡ places_in p → hearing_of tally now ≡ heard check c t p
heard_all check c t p k tally now so_far all = so_far.hearing ∙ ap (heard_to check c t p) all

-- the record to catch up with is lawful
pub ahead_lawful : (check : Check) (c : State) (t : List Place) (p : List ℕ) (tally : Tally) → length t ≡ places_of c.settings → tally_view tally ≡ (heard check c t p).progress → (f : Fields) → tally.ahead ≡ Some f → (f.phase ≤ c.settings.phases) × (f.value ≤ 2)
unfolding two_way
ahead_lawful check c t p tally size counts f e =
    let well = heard_well check c t p (places_in p) size in
    let backed = well.ahead_backed f (sym (ap (λ (x : Progress). x.ahead) counts) ∙ e) in
    let once = backed.valid in
    (backed.within, valid_value (hall_of c.settings) once.0 f.phase f.value once.2)
