-- Leaving a phase with a quorum: the new value is valid in the next phase.
use Rattle.std.proofs.Common.{◌≡◌, ℕ, ◌+◌, ◌-◌, ◌%◌, ◌<◌, true, ◌||◌, eqb, ltb, leb, ◌⊎◌, sym, refl, subst, inl, inr, arith}
use Rattle.std.proofs.lemmas.Bool.{and_from, cases_lt, eq-eqb, le-leb, leb-true, lt-ltb, ne_eqb, or_left, or_right}
use Rattle.settings.specs.Kinds.{kind_of}
use Rattle.settings.specs.declared.kind.PhaseKind.{PhaseKind}
use Rattle.settings.specs.declared.kind.PhaseKind.TheVariants.{Converge, Decide, Lock}
use Rattle.agreement.specs.Rules.{Hall, QuorumFor, QuorumIn, Table, has_quorum, is_lawful, is_valid, phase_rule, quorum, tally, turnout, value_rule_in}
use Rattle.agreement.specs.Books.{Filled, FirstLaw, SecondLaw, Unanimous, Within}
use Rattle.agreement.specs.TwoWay.{both_held, has_weak_quorum, two_way, two_way_hall}
use Rattle.agreement.proofs.Rules.{kind_converge, kind_decide, kind_lock, valid_course, valid_from, valid_lock}
use Rattle.agreement.proofs.Tables.{course_backed, tally_turnout, tally_within, turnout_other, turnout_within}

-- a record is valid in the phase after φ by a quorum in φ and the value rule of its kind
next_valid : (hall : Hall) (t : Table) (φ v : ℕ) (kind : PhaseKind) → is_lawful hall (φ + 1) v ≡ true → QuorumIn hall t φ → kind_of (φ + 1) ≡ kind → value_rule_in kind hall t (φ + 1) v ≡ true → is_valid hall t (φ + 1) v ≡ true
next_valid hall t φ v kind lawful enough e backed =
    let before : QuorumIn hall t (φ + 1 - 1) = subst (λ (ψ : ℕ). QuorumIn hall t ψ) (omega arith) enough in
    let ready : phase_rule hall t (φ + 1) ≡ true = or_right (eqb (φ + 1) 1) _ (le-leb (quorum hall) (turnout hall t (φ + 1 - 1)) before) in
    valid_from hall t (φ + 1) v lawful ready (subst (λ (k : PhaseKind). value_rule_in k hall t (φ + 1) v ≡ true) (sym e) backed)

lawful_course : (hall : Hall) (φ v : ℕ) → v < hall.book.courses → is_lawful hall (φ + 1) v ≡ true
lawful_course hall φ v course =
    and_from (leb 1 (φ + 1)) _ (le-leb 1 (φ + 1) (omega arith)) (or_left (ltb v hall.book.courses) _ (lt-ltb v hall.book.courses course))

lawful_no_preference : (hall : Hall) (φ : ℕ) → (φ + 1) % 3 ≡ 0 → is_lawful hall (φ + 1) hall.book.courses ≡ true
lawful_no_preference hall φ decide =
    let m = hall.book.courses in
    let last = and_from (eqb m m) (eqb ((φ + 1) % 3) 0) (eq-eqb m m refl) (eq-eqb ((φ + 1) % 3) 0 decide) in
    and_from (leb 1 (φ + 1)) _ (le-leb 1 (φ + 1) (omega arith)) (or_right (ltb m m) _ last)

-- from CONVERGE, what is picked
pub leave_converge : (hall : Hall) (ever t : Table) (φ : ℕ) → SecondLaw hall → Filled hall ever → Within t ever → φ % 3 ≡ 1 → QuorumIn hall t φ → is_valid hall t (φ + 1) (hall.book.pick t φ) ≡ true
leave_converge hall ever t φ second filled within converge enough =
    let v : ℕ = hall.book.pick t φ in
    next_valid hall t φ v Lock (lawful_course hall φ v (second.course t φ)) enough (kind_lock (φ + 1) (omega arith)) (second.lock ever t φ filled within converge enough)

-- from LOCK, a course with a quorum
pub leave_lock : (hall : Hall) (t : Table) (φ v : ℕ) → φ % 3 ≡ 2 → v < hall.book.courses → QuorumFor hall t φ v → is_valid hall t (φ + 1) v ≡ true
leave_lock hall t φ v lock course enough =
    let all = tally_turnout hall t φ v (omega arith) in
    let before : QuorumFor hall t (φ + 1 - 1) v = subst (λ (ψ : ℕ). QuorumFor hall t ψ v) (omega arith) enough in
    let backed : value_rule_in Decide hall t (φ + 1) v ≡ true = rw (ne_eqb v hall.book.courses (λ h. omega arith)) (le-leb (quorum hall) (tally hall.cabins t (φ + 1 - 1) v) before) in
    next_valid hall t φ v Decide (lawful_course hall φ v course) (omega arith) (kind_decide (φ + 1) (omega arith)) backed

-- from LOCK, no preference where the book supports it
pub no_preference_valid : (hall : Hall) (t : Table) (φ : ℕ) → φ % 3 ≡ 2 → QuorumIn hall t φ → hall.book.no_preference t (φ + 1) ≡ true → is_valid hall t (φ + 1) hall.book.courses ≡ true
no_preference_valid hall t φ lock enough supported =
    let m : ℕ = hall.book.courses in
    let backed : value_rule_in Decide hall t (φ + 1) m ≡ true = rw (eq-eqb m m refl) supported in
    next_valid hall t φ m Decide (lawful_no_preference hall φ (omega arith)) enough (kind_decide (φ + 1) (omega arith)) backed

-- from LOCK without a quorum for a course, by the two-way rules: both courses were kept there, so no preference is supported
pub leave_lock_open : (n f : ℕ) (ever t : Table) (φ : ℕ) → Filled (two_way_hall n f) ever → Within t ever → φ % 3 ≡ 2 → QuorumIn (two_way_hall n f) t φ → tally n t φ 0 < quorum (two_way_hall n f) → tally n t φ 1 < quorum (two_way_hall n f) → is_valid (two_way_hall n f) ever (φ + 1) 2 ≡ true
unfolding two_way
leave_lock_open n f ever t φ filled within lock enough few_zero few_one =
    let grown : QuorumIn (two_way_hall n f) ever φ = omega (arith, turnout_within (two_way_hall n f) t ever φ within) in
    let zero_held = held_but 1 0 few_one (λ w small e. omega arith) in
    let one_held = held_but 0 1 few_zero (λ w small e. omega arith) in
    let both = and_from (has_weak_quorum n f ever (φ - 1) 0) (has_weak_quorum n f ever (φ - 1) 1) zero_held one_held in
    no_preference_valid (two_way_hall n f) ever φ lock grown (subst (λ (ψ : ℕ). both_held n f ever ψ ≡ true) (omega arith) both)
  where
    -- a value that v is not all of has a weak quorum in the CONVERGE phase before
    held_but : (v u : ℕ) → tally n t φ v < quorum (two_way_hall n f) → ((w : ℕ) → w < 2 → (w ≡ v → ⊥) → w ≡ u) → has_weak_quorum n f ever (φ - 1) u ≡ true
    held_but v u less remains =
        let other = turnout_other (two_way_hall n f) t φ v (omega arith) in
        let w : ℕ = other.1 in
        let once = filled.valid φ other.0 w (within φ other.0 w other.3) in
        let course : w < 2 = valid_course (two_way_hall n f) once.0 φ w once.2 (λ e. omega arith) in
        let supported : has_weak_quorum n f once.0 (φ - 1) w ≡ true = valid_lock (two_way_hall n f) once.0 φ w lock once.2 in
        let many = leb-true _ _ supported in
        let grown = tally_within n once.0 ever (φ - 1) w once.1 in
        subst
        (λ (x : ℕ). has_weak_quorum n f ever (φ - 1) x ≡ true)
        (remains w course other.4)
        (le-leb _ (tally n ever (φ - 1) w) (omega arith))

-- from DECIDE, a course with a quorum in the LOCK phase before, or any course where no preference has a quorum
pub converge_valid : (hall : Hall) (t : Table) (d v : ℕ) → d % 3 ≡ 0 → v < hall.book.courses → QuorumIn hall t d → QuorumFor hall t (d - 1) v ⊎ QuorumFor hall t d hall.book.courses → is_valid hall t (d + 1) v ≡ true
converge_valid hall t d v decide course enough either =
    let m : ℕ = hall.book.courses in
    let locked : ℕ = d + 1 - 2 in
    let last : ℕ = d + 1 - 1 in
    let backed : (has_quorum hall t locked v || has_quorum hall t last m) ≡ true = elim either [
      | inl p ↦ or_left (has_quorum hall t locked v) (has_quorum hall t last m) (le-leb _ _ (subst (λ (φ : ℕ). QuorumFor hall t φ v) (omega arith) p))
      | inr p ↦ or_right (has_quorum hall t locked v) (has_quorum hall t last m) (le-leb _ _ (subst (λ (φ : ℕ). QuorumFor hall t φ m) (omega arith) p))
    ] in
    next_valid hall t d v Converge (lawful_course hall d v course) enough (kind_converge (d + 1) (omega arith)) (or_right (eqb (d + 1) 1) _ backed)

-- from DECIDE, a course that was kept there
pub leave_decide : (hall : Hall) (ever : Table) (d j v : ℕ) → Filled hall ever → d % 3 ≡ 0 → v < hall.book.courses → ever d j v ≡ true → QuorumIn hall ever d → is_valid hall ever (d + 1) v ≡ true
leave_decide hall ever d j v filled decide course held enough =
    converge_valid hall ever d v decide course enough (inl (course_backed hall ever filled d j v decide course held))

-- from DECIDE where no course was kept, any course: as a toss gives it
pub leave_decide_toss : (hall : Hall) (t : Table) (d v : ℕ) → d % 3 ≡ 0 → v < hall.book.courses → ((j w : ℕ) → w < hall.book.courses → t d j w ≡ true → ⊥) → QuorumIn hall t d → is_valid hall t (d + 1) v ≡ true
leave_decide_toss hall t d v decide course none enough =
    let m : ℕ = hall.book.courses in
    let all : QuorumFor hall t d m = elim (cases_lt (tally hall.cabins t d m) (turnout hall t d)) [
      | inl less ↦ let other = turnout_other hall t d m less in absurd (none other.0 other.1 (omega (arith, other.2, other.4)) other.3)
      | inr same ↦ omega arith
    ] in
    converge_valid hall t d v decide course enough (inr all)

-- where a CONVERGE phase is unanimous, what is picked from a quorum there is v
pub pick_unanimous : (hall : Hall) (ever t : Table) (ψ v : ℕ) → FirstLaw hall → SecondLaw hall → Filled hall ever → Within t ever → Unanimous hall ever ψ v → QuorumIn hall t ψ → hall.book.pick t ψ ≡ v
pick_unanimous hall ever t ψ v first second filled within u enough =
    first.lock ever ψ v (hall.book.pick t ψ) filled u (t, within, second.lock ever t ψ filled within u.converge enough)
