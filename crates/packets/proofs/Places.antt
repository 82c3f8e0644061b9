-- The records of a packet by place, and a packet in which one was written.
use Rattle.std.proofs.Common.{◌≡◌, ℕ, ◌+◌, ◌-◌, ◌*◌, ◌<◌, ◌≤◌, true, List, ◌++◌, length, take, drop, refl, sym, ap, ◌∙◌, inl, inr, arith}
use borrow.Rule.Slice.PartMut.{put_mid}
use lib.Seq.{paste}
use Rattle.std.proofs.lemmas.List.Edits.{length-between, paste_all, paste-paste, split_between}
use Rattle.std.proofs.lemmas.List.{drop-drop, length-append, take-append-drop, take-take}
use Rattle.std.proofs.lemmas.Slice.{between_is, between-put_mid, drop-put_mid, put_mid-paste, take-put_mid_below}
use Rattle.std.proofs.lemmas.Bool.{cases_lt, lt-ltb}
use Rattle.std.proofs.lemmas.Grind.{common_steps}
use Rattle.settings.specs.declared.settings.Settings.{Settings}
use Rattle.packets.proofs.Trips.{answer_of_bytes, same_from_bytes}
use Rattle.packets.specs.Laws.{InBytes, ReadsBack, Rewrites, judged}
use Rattle.packets.specs.Packets.{is_last, packet_lawful, places_in, read_answer, record_at, shown_as, word_at, written}
use Rattle.packets.specs.Records.{fields_answer, head_bytes, record_bytes}
use Rattle.packets.specs.declared.record.Fields.{Fields}

-- the word is what follows the first 8 bytes of its record
word_of_record : (p : List ℕ) (k : ℕ) → word_at p k ≡ drop 8 (record_at p k)
word_of_record p k =
    let a : ℕ = k * 40 in
    rw (between_is p a (a + 40), between_is p (a + 8) (a + 40)) (sym (drop-drop 8 a (take (a + 40) p)))

joined_at_8 : (h w bs : List ℕ) → h ≡ take 8 bs → w ≡ drop 8 bs → h ++ w ≡ bs
joined_at_8 h w bs head rest = rw (head, rest) (take-append-drop 8 bs)

-- a record that was read: written again at its place, it leaves the packet as it was
pub rewrites : (p : List ℕ) (k : ℕ) (f : Fields) → k < places_in p → head_bytes f ≡ take 8 (record_at p k) → Rewrites p k f (word_at p k)
rewrites p k f within head =
    let room : k * 40 + 40 ≤ length p = omega arith in
    let bytes : record_bytes f (word_at p k) ≡ record_at p k = joined_at_8 (head_bytes f) (word_at p k) (record_at p k) head (word_of_record p k) in
    record {
      whole = length-between p (k * 40 + 8) (k * 40 + 40) room ∙ omega arith;
      same = ap (written p k) bytes ∙ sym (split_between p (k * 40) (k * 40 + 40) (omega arith));
    }

-- the two parts that a write copies make the record
pub parts_written : (p h w : List ℕ) (k : ℕ) → k * 40 + 40 ≤ length p → length h ≡ 8 → length w ≡ 32 → put_mid (k * 40 + 8) (k * 40 + 40 - (k * 40 + 8)) (put_mid (k * 40) (k * 40 + 8 - k * 40) p h) w ≡ written p k (h ++ w)
parts_written p h w k within eight whole =
    let a : ℕ = k * 40 in
    let m = put_mid-paste a (a + 8 - a) p h h 8 refl (omega arith) (sym eight) in
    let n = put_mid-paste (a + 8) (a + 40 - (a + 8)) (paste p a h 8) w w 32 refl (omega arith) (sym whole) in
    let q = paste-paste p a h w 8 32 (sym eight) (sym whole) (omega arith) in
    let all = paste_all p a (h ++ w) 40 (simp length-append (omega arith)) in
    ap (λ (x : List ℕ). put_mid (a + 8) (a + 40 - (a + 8)) x w) m ∙ (n ∙ (q ∙ all))

-- a write as the prover sees it
written_is : (p bs : List ℕ) (k : ℕ) → written p k bs ≡ put_mid (k * 40) 40 p bs
written_is p bs k = ap (λ (x : List ℕ). take (k * 40) p ++ (bs ++ x)) (sym (drop-drop 40 (k * 40) p))

pub length_written : (p bs : List ℕ) (k : ℕ) → k * 40 + 40 ≤ length p → length bs ≡ 40 → length (written p k bs) ≡ length p
length_written p bs k within whole = grind (arith, common_steps)

pub record_of_written : (p bs : List ℕ) (k : ℕ) → k * 40 + 40 ≤ length p → length bs ≡ 40 → record_at (written p k bs) k ≡ bs
record_of_written p bs k within whole =
    ap (λ (x : List ℕ). record_at x k) (written_is p bs k) ∙ between-put_mid (k * 40) 40 p bs (k * 40 + 40) (omega arith) (omega arith)

pub others_of_written : (p bs : List ℕ) (k j : ℕ) → k * 40 + 40 ≤ length p → length bs ≡ 40 → (j ≡ k → ⊥) → record_at (written p k bs) j ≡ record_at p j
others_of_written p bs k j within whole other =
    ap (λ (x : List ℕ). record_at x j) (written_is p bs k) ∙ elim (cases_lt j k) [
      | inl before ↦ between_is (put_mid (k * 40) 40 p bs) (j * 40) (j * 40 + 40) ∙ (ap (drop (j * 40)) (take-put_mid_below (k * 40) 40 p bs (j * 40 + 40) (omega arith) (omega arith)) ∙ sym (between_is p (j * 40) (j * 40 + 40)))
      | inr behind ↦ ap (take (j * 40 + 40 - j * 40)) (drop-put_mid (k * 40) 40 p bs (j * 40) (omega arith) (omega arith) whole)
    ]

-- what is behind the record stays
pub drop_of_written : (p bs : List ℕ) (k size : ℕ) → k * 40 + 40 ≤ length p → length bs ≡ 40 → k * 40 + 40 ≤ size → drop size (written p k bs) ≡ drop size p
drop_of_written p bs k size within whole behind =
    ap (drop size) (written_is p bs k) ∙ drop-put_mid (k * 40) 40 p bs size (omega arith) (omega arith) whole

-- a record of the first bytes of a list
pub record_of_take : (p : List ℕ) (k size : ℕ) → k * 40 + 40 ≤ size → record_at (take size p) k ≡ record_at p k
record_of_take p k size within =
    between_is (take size p) (k * 40) (k * 40 + 40) ∙ (ap (drop (k * 40)) (take-take (k * 40 + 40) size p within) ∙ sym (between_is p (k * 40) (k * 40 + 40)))

-- reading at the place of a record that was written
pub read_of_written : (s : Settings) (b : ℕ) (q : List ℕ) (k : ℕ) (f : Fields) (w : List ℕ) → packet_lawful q ≡ true → k < places_in q → InBytes f → record_at q k ≡ record_bytes f w → read_answer s b q k ≡ shown_as (is_last q k) w (judged s b f)
read_of_written s b q k f w lawful within fit there =
    let word : word_at q k ≡ w = word_of_record q k ∙ ap (drop 8) there in
    let answer : fields_answer s b (record_at q k) ≡ judged s b f = ap (fields_answer s b) there ∙ answer_of_bytes s b f w fit in
    rw (lawful, lt-ltb k (places_in q) within) (cc)

-- a buffer after a write
pub reads_back : (p q : List ℕ) (k : ℕ) (f : Fields) (w : List ℕ) → k < places_in p → InBytes f → length w ≡ 32 → q ≡ written p k (record_bytes f w) → ReadsBack p q k f w
reads_back p q k f w within fit whole after =
    let bs : List ℕ = record_bytes f w in
    let room : k * 40 + 40 ≤ length p = omega arith in
    let size : length bs ≡ 40 = simp length-append (omega arith) in
    let there : record_at q k ≡ bs = ap (λ (x : List ℕ). record_at x k) after ∙ record_of_written p bs k room size in
    let long : length q ≡ length p = ap length after ∙ length_written p bs k room size in
    record {
      reads = λ s b lawful. read_of_written s b q k f w lawful (omega arith) fit there;
      others = λ j other. ap (λ (x : List ℕ). record_at x j) after ∙ others_of_written p bs k j room size other;
      apart = λ g v git e. same_from_bytes f g v w fit git (e ∙ there);
    }
