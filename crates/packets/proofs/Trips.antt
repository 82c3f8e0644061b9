-- The fields of a record and its bytes give each other.
use Rattle.std.proofs.Common.{◌≡◌, ℕ, ◌/◌, ◌%◌, ◌<◌, true, nat_le, List, drop, refl, sym, ap, ◌∙◌, arith}
use Rattle.std.proofs.lemmas.Grind.{common_steps}
use Rattle.settings.specs.Kinds.{status_number}
use Rattle.settings.specs.declared.settings.Settings.{Settings}
use Rattle.settings.specs.declared.status.Status.{Status}
use Rattle.settings.specs.declared.status.Status.TheVariants.{Undecided, Decided}
use Rattle.packets.specs.Laws.{InBytes, judged}
use Rattle.packets.specs.Records.{fields_answer, fields_in, pair_of, record_bytes, status_of}
use Rattle.packets.specs.declared.record.Fields.{Fields}

pair_back : (n : ℕ) → n < 65536 → pair_of (n / 256 % 256) (n % 256) ≡ n
pair_back n within = omega arith

status_back : (t : Status) → status_of (status_number t) ≡ t
status_back Undecided = refl
status_back Decided = refl

-- the fields that are read from a record's bytes are those that it was made of
pub fields_of_bytes : (f : Fields) (w : List ℕ) → InBytes f → fields_in (record_bytes f w) ≡ f
fields_of_bytes f w fit = simp (pair_back f.branch fit.0, pair_back f.phase fit.1, status_back f.status)

pub same_from_bytes : (f g : Fields) (v w : List ℕ) → InBytes f → InBytes g → record_bytes g v ≡ record_bytes f w → (g ≡ f) × (v ≡ w)
same_from_bytes f g v w fit git e =
    (sym (fields_of_bytes g v git) ∙ (ap fields_in e ∙ fields_of_bytes f w fit), ap (λ (bs : List ℕ). drop 8 bs) e)

status_lawful : (t : Status) → nat_le (status_number t) 1 ≡ true
status_lawful Undecided = refl
status_lawful Decided = refl

-- reading answers of a record's bytes as of the fields that it was made of
pub answer_of_bytes : (s : Settings) (b : ℕ) (f : Fields) (w : List ℕ) → InBytes f → fields_answer s b (record_bytes f w) ≡ judged s b f
answer_of_bytes s b f w fit =
    let e = fields_of_bytes f w fit in
    let l = status_lawful f.status in
    grind (arith, common_steps)
