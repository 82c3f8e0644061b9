-- Agreement: what the tables of honest cabins share, and why two decisions are one.
use Rattle.std.proofs.Common.{◌≡◌, ℕ, ◌+◌, ◌-◌, ◌%◌, ◌<◌, ◌≤◌, true, sym, subst, inl, inr, arith}
use Rattle.std.proofs.lemmas.Bool.{cases_eq, cases_order}
use Rattle.agreement.specs.Rules.{Hall, QuorumFor}
use Rattle.agreement.specs.Books.{FirstLaw, Unanimous}
use Rattle.agreement.specs.History.{DecideQuorum, History, Honest, Laws}
use Rattle.agreement.specs.Agreement.{DecisionsAgree}
use Rattle.agreement.proofs.Quorums.{quorums_share}
use Rattle.agreement.proofs.Rules.{valid_phase}
use Rattle.agreement.proofs.Tables.{Only, converge_once, course_backed, only_unanimous, quorum_kept, quorum_valid}
use Rattle.agreement.proofs.Unanimity.{unanimity_lasts}

module _ (hall : Hall) (H : History) (laws : Laws hall H) where
  -- two quorums of one phase have one value: an honest cabin is in both, and it announced one value
  pub quorums_agree : (x y φ v w : ℕ) → Honest H x → Honest H y → QuorumFor hall (H.kept x) φ v → QuorumFor hall (H.kept y) φ w → v ≡ w
  quorums_agree x y φ v w hx hy p q =
      let s = quorums_share hall H.honest (H.kept x) (H.kept y) φ v w laws.few p q in
      let said_v = laws.authentic x s.cabin φ v hx s.trusted s.first in
      let said_w = laws.authentic y s.cabin φ w hy s.trusted s.second in
      laws.one_voice s.cabin φ v w s.trusted said_v said_w

  -- in one DECIDE phase honest cabins keep one course at most: each has a quorum in the LOCK phase before
  pub one_course : (x y d j k v w : ℕ) → Honest H x → Honest H y → d % 3 ≡ 0 → v < hall.book.courses → w < hall.book.courses → H.kept x d j v ≡ true → H.kept y d k w ≡ true → v ≡ w
  one_course x y d j k v w hx hy decide cv cw kv kw =
      let backs_v = course_backed hall (H.kept x) (laws.filled x hx) d j v decide cv kv in
      let backs_w = course_backed hall (H.kept y) (laws.filled y hy) d k w decide cw kw in
      quorums_agree x y (d - 1) v w hx hy backs_v backs_w

  -- after a quorum for a course in a DECIDE phase only that course is valid in the next CONVERGE phase
  pub quorum_only_next : (x y d v : ℕ) → Honest H x → Honest H y → DecideQuorum hall (H.kept x) d v → Only hall (H.kept y) (d + 1) v
  quorum_only_next x y d v hx hy rests w once =
      let one = quorum_kept hall (H.kept x) d v rests.enough in
      let past = (laws.filled x hx).valid d one.0 v one.1 in
      let begun : 1 ≤ d = valid_phase hall past.0 d v past.2 in
      let backs_v = course_backed hall (H.kept x) (laws.filled x hx) d one.0 v rests.decide rests.course one.1 in
      elim (converge_once hall (H.kept y) (d + 1) (d - 1) d w (omega arith) (omega arith) (omega arith) once) [
        | inl backs_w ↦ sym (quorums_agree x y (d - 1) v w hx hy backs_v backs_w)
        | inr none ↦
            let same : v ≡ hall.book.courses = quorums_agree x y d v hall.book.courses hx hy rests.enough none in
            absurd (omega arith)
      ]

  -- so that phase is unanimous
  pub quorum_unanimous : (x y d v : ℕ) → Honest H x → Honest H y → DecideQuorum hall (H.kept x) d v → Unanimous hall (H.kept y) (d + 1) v
  quorum_unanimous x y d v hx hy rests =
      only_unanimous hall (H.kept y) (laws.filled y hy) (d + 1) v (omega arith) (quorum_only_next x y d v hx hy rests)

  module _ (first : FirstLaw hall) where
    -- and only that course is valid in any later phase
    pub quorum_only_later : (x y d φ v : ℕ) → Honest H x → Honest H y → DecideQuorum hall (H.kept x) d v → d < φ → Only hall (H.kept y) φ v
    quorum_only_later x y d φ v hx hy rests later =
        elim (cases_eq φ (d + 1)) [
          | inl e ↦ subst (λ (ψ : ℕ). Only hall (H.kept y) ψ v) (sym e) (quorum_only_next x y d v hx hy rests)
          | inr other ↦ unanimity_lasts hall (H.kept y) (laws.filled y hy) first (d + 1) φ v (quorum_unanimous x y d v hx hy rests) (omega arith)
        ]

    quorum_before : (x y d e v w : ℕ) → Honest H x → Honest H y → DecideQuorum hall (H.kept x) d v → DecideQuorum hall (H.kept y) e w → d < e → w ≡ v
    quorum_before x y d e v w hx hy p q before =
        quorum_only_later x y d e v hx hy p before w (quorum_valid hall (H.kept y) (laws.filled y hy) e w q.enough)

    -- two quorums for courses, in whatever DECIDE phases, have one value
    pub decide_quorums_agree : (x y d e v w : ℕ) → Honest H x → Honest H y → DecideQuorum hall (H.kept x) d v → DecideQuorum hall (H.kept y) e w → v ≡ w
    decide_quorums_agree x y d e v w hx hy p q =
        elim (cases_order d e) [
          | inl same ↦ quorums_agree x y d v w hx hy p.enough (subst (λ (φ : ℕ). QuorumFor hall (H.kept y) φ w) (sym same) q.enough)
          | inr apart ↦ elim apart [
            | inl before ↦ sym (quorum_before x y d e v w hx hy p q before)
            | inr after ↦ quorum_before y x e d w v hy hx q p after
          ]
        ]

-- agreement: two decisions of honest cabins are equal
pub decisions_agree : DecisionsAgree
decisions_agree hall H first laws i j v w hi hj p q =
    let a = laws.rests i v hi p in
    let b = laws.rests j w hj q in
    decide_quorums_agree hall H laws first i j a.0 b.0 v w hi hj a.2 b.2
