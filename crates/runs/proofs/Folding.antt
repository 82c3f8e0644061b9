-- The records of a packet are heard one after another: each that is kept passed its check and met the rules.
use Rattle.std.proofs.Common.{◌≡◌, ℕ, zero, suc, Bool, true, false, cond, leb, ◌⊎◌, List, length, Some, None, Ok, Err, Option, Result, refl, ◌∙◌, inl, inr, arith}
use Rattle.std.proofs.lemmas.List.{length-set}
use Rattle.std.proofs.lemmas.Bool.{leb-true}
use Rattle.settings.proofs.Accepted.{needs_ok}
use Rattle.settings.specs.declared.settings.Settings.{Settings}
use Rattle.agreement.specs.Books.{Within, Once}
use Rattle.agreement.specs.Rules.{Table, is_valid}
use Rattle.agreement.specs.Status.{status_rule}
use Rattle.agreement.proofs.Growing.{once_more}
use Rattle.agreement.proofs.Rules.{valid_from}
use Rattle.packets.specs.Packets.{Shown, read_answer}
use Rattle.packets.specs.declared.record.Fields.{Fields}
use Rattle.table.specs.Places.{place_of, places_of, records_of}
use Rattle.table.specs.Rules.{hall_of, is_decided, meets_phase, meets_status, meets_value}
use Rattle.table.specs.declared.place.Place.{Place}
use Rattle.table.specs.declared.place.Place.TheVariants.{Filled}
use Rattle.moves.specs.Hearing.{Hearing, further, heard_one, heard_to, kept_in, taken}
use Rattle.moves.specs.Judging.{Check, found, ruled}
use Rattle.moves.specs.declared.fault.Finding.{Finding}
use Rattle.moves.specs.declared.fault.Finding.TheVariants.{New, Known}
use Rattle.moves.specs.declared.state.State.{State}
use Rattle.moves.proofs.Lawful.{in_place, lawful_in_hall, lawful_parts, read_lawful}
use Rattle.runs.proofs.Filling.{fills}
use Rattle.runs.proofs.Sound.{Backed, HeardWell}

-- a record that is new met the three rules
record Kept (check : Check) (s : Settings) (t : List Place) (f : Fields) (w : List ℕ) : Type 0 where
  passes : check f.cabin f.phase f.value w ≡ true
  phase : meets_phase s (records_of s t) f.phase ≡ true
  value : meets_value s (records_of s t) f.phase f.value ≡ true
  status : meets_status s (records_of s t) f.phase f.value f.status ≡ true

-- an answer New comes from behind the test that the record is known
not_known : (x : Bool) (rest : Result Finding ℕ) → cond x (Ok Known) rest ≡ Ok New → rest ≡ Ok New
not_known true rest e = absurd (let z : ◌≡◌ {A = ℕ} 0 1 = cc in omega arith)
not_known false rest e = e

-- and such a record was kept by the rules
found_new : (check : Check) (s : Settings) (t : List Place) (f : Fields) (w : List ℕ) → found check s t f w ≡ Ok New → Kept check s t f w
found_new check s t f w e =
    let a = needs_ok (check f.cabin f.phase f.value w) 13 _ New e in
    let b = needs_ok (meets_phase s (records_of s t) f.phase) 14 _ New (not_known (records_of s t f.phase f.cabin f.value) (ruled s t f) a.1) in
    let d = needs_ok (meets_value s (records_of s t) f.phase f.value) 15 _ New b.1 in
    let g = needs_ok (meets_status s (records_of s t) f.phase f.value f.status) 16 _ New d.1 in
    record { passes = a.0; phase = b.0; value = d.0; status = g.0 }

-- one of two, by a test
further_cond : (b : Bool) (x f g : Fields) → cond b (Some f) (Some x) ≡ Some g → (g ≡ f) ⊎ (Some x ≡ Some g)
further_cond true x f g e = inl (cc)
further_cond false x f g e = inr e

-- of two records the further is one of them
further_of : (ahead : Option Fields) (f g : Fields) → further ahead f ≡ Some g → (g ≡ f) ⊎ (ahead ≡ Some g)
further_of None f g e = inl (cc)
further_of (Some x) f g e = further_cond (leb x.phase f.phase) x f g e

-- what a kept record was backed by stays
backed_more : (s : Settings) (a b : Table) (f : Fields) → Within a b → Backed s a f → Backed s b f
backed_more s a b f within backed = record {
  within = backed.within;
  valid = once_more a b (λ t. is_valid (hall_of s) t f.phase f.value) within backed.valid;
  status = once_more a b (λ t. status_rule (hall_of s) t f.phase f.value (is_decided f.status)) within backed.status;
}

-- Of a record that is new: what was heard well before it, is with it.
heard_new : (check : Check) (c : State) (t : List Place) (p : List ℕ) (k : ℕ) (h : Hearing) (r : Shown)
    → read_answer c.settings c.branch p k ≡ Ok r → found check c.settings h.table r.fields r.word ≡ Ok New
    → length t ≡ places_of c.settings → HeardWell check c t h.table p h.progress.ahead
    → HeardWell check c t (kept_in c New r.fields r.word h.table) p (further h.progress.ahead r.fields)
heard_new check c t p k h r reads finds size well =
    let s = c.settings in
    let f = r.fields in
    let old = records_of s h.table in
    let now_kept = records_of s (kept_in c New f r.word h.table) in
    let lawful = lawful_parts s f (read_lawful s c.branch p k r reads) in
    let met = found_new check s h.table f r.word finds in
    let filled = fills s h.table f.phase f.cabin f.value f.status r.word (well.size ∙ size) (in_place s f lawful) in
    let valid : Once now_kept (λ u. is_valid (hall_of s) u f.phase f.value) =
    (old, filled.grown, valid_from (hall_of s) old f.phase f.value (lawful_in_hall s f lawful) met.phase met.value) in
    let backed : Backed s now_kept f = record { within = leb-true f.phase s.phases lawful.to; valid = valid; status = (old, filled.grown, met.status) } in
    record {
      size = length-set h.table (place_of s f.phase f.cabin f.value) (Filled f.status r.word) ∙ well.size;
      grown = λ φ j v e. filled.grown φ j v (well.grown φ j v e);
      new = λ φ j v e. elim (filled.new φ j v e) [
        | inl before ↦ elim (well.new φ j v before) [
          | inl first ↦ inl first
          | inr heard ↦ inr (heard.0, once_more old now_kept (λ u. is_valid (hall_of s) u φ v) filled.grown heard.1)
        ]
        | inr same ↦ inr (
          record { place = k; shown = r; reads = reads; passes = met.passes; phase_is = cc; cabin_is = cc; value_is = cc },
          rw (same.phase, same.value) valid,
        )
      ];
      ahead_backed = λ g e. elim (further_of h.progress.ahead f g e) [
        | inl same ↦ rw same backed
        | inr before ↦ backed_more s old now_kept g filled.grown (well.ahead_backed g before)
      ];
    }

-- a record that was found new, known or against a rule
heard_found : (check : Check) (c : State) (t : List Place) (p : List ℕ) (k : ℕ) (h : Hearing) (r : Shown) (finding : Result Finding ℕ)
    → read_answer c.settings c.branch p k ≡ Ok r → found check c.settings h.table r.fields r.word ≡ finding
    → length t ≡ places_of c.settings → HeardWell check c t h.table p h.progress.ahead
    → HeardWell check c t (taken c k r.fields r.word finding h).table p (taken c k r.fields r.word finding h).progress.ahead
heard_found check c t p k h r (Ok New) reads finds size well = heard_new check c t p k h r reads finds size well
heard_found check c t p k h r (Ok Known) reads finds size well = well
heard_found check c t p k h r (Err e) reads finds size well = well

-- one record more
heard_more : (check : Check) (c : State) (t : List Place) (p : List ℕ) (k : ℕ) (h : Hearing) (answer : Result Shown ℕ)
    → read_answer c.settings c.branch p k ≡ answer
    → length t ≡ places_of c.settings → HeardWell check c t h.table p h.progress.ahead
    → HeardWell check c t (heard_one check c k answer h).table p (heard_one check c k answer h).progress.ahead
heard_more check c t p k h (Ok r) reads size well = heard_found check c t p k h r (found check c.settings h.table r.fields r.word) reads refl size well
heard_more check c t p k h (Err e) reads size well = well

-- after the first k records
pub heard_well : (check : Check) (c : State) (t : List Place) (p : List ℕ) (k : ℕ) → length t ≡ places_of c.settings → HeardWell check c t (heard_to check c t p k).table p (heard_to check c t p k).progress.ahead
unfolding heard_to
heard_well check c t p zero size = record {
  size = refl;
  grown = λ φ j v e. e;
  new = λ φ j v e. inl e;
  ahead_backed = λ f e. absurd (let z : ◌≡◌ {A = ℕ} 0 1 = cc in omega arith);
}
heard_well check c t p (suc k) size = heard_more check c t p k (heard_to check c t p k) (read_answer c.settings c.branch p k) refl size (heard_well check c t p k size)
