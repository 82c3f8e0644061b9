-- A history that keeps all laws: three honest cabins of four say v in phases 1 to 3, and all three decide v.
use Rattle.std.proofs.Common.{◌≡◌, ℕ, zero, suc, ◌<◌, ◌≤◌, true, ◌&&◌, eqb, ltb, leb, Some, refl, subst, arith}
use Rattle.std.proofs.lemmas.Bool.{true≢false}
use Rattle.std.proofs.lemmas.Bool.Decides.{nat_tests}
use Rattle.agreement.specs.Counting.{count, some}
use Rattle.agreement.specs.Rules.{Table, is_valid, tally, turnout}
use Rattle.agreement.specs.Books.{Filled}
use Rattle.agreement.specs.TwoWay.{two_way, two_way_hall}
use Rattle.agreement.specs.Example.{CanDecide}
use Rattle.agreement.specs.History.{DecideQuorum, History, Laws}

-- what each of the three has heard, and announced
heard : ℕ → Table
heard v φ j w = (leb 1 φ && leb φ 3) && (ltb j 3 && eqb w v)

record Heard (v φ j w : ℕ) : Type 0 where
  from : 1 ≤ φ
  to : φ ≤ 3
  cabin : j < 3
  value : w ≡ v

heard_parts : (v φ j w : ℕ) → heard v φ j w ≡ true → Heard v φ j w
unfolding heard
heard_parts v φ j w e = record { from = grind (arith, nat_tests); to = grind (arith, nat_tests); cabin = grind (arith, nat_tests); value = grind (arith, nat_tests) }

heard_valid : (v φ : ℕ) → v < 2 → 1 ≤ φ → φ ≤ 4 → is_valid (two_way_hall 4 1) (heard v) φ v ≡ true
unfolding heard is_valid two_way tally turnout count some
heard_valid v zero small from to = absurd (omega arith)
heard_valid zero (suc zero) small from to = refl
heard_valid zero (suc (suc zero)) small from to = refl
heard_valid zero (suc (suc (suc zero))) small from to = refl
heard_valid zero (suc (suc (suc (suc zero)))) small from to = refl
heard_valid zero (suc (suc (suc (suc (suc φ))))) small from to = absurd (omega arith)
heard_valid (suc zero) (suc zero) small from to = refl
heard_valid (suc zero) (suc (suc zero)) small from to = refl
heard_valid (suc zero) (suc (suc (suc zero))) small from to = refl
heard_valid (suc zero) (suc (suc (suc (suc zero)))) small from to = refl
heard_valid (suc zero) (suc (suc (suc (suc (suc φ))))) small from to = absurd (omega arith)
heard_valid (suc (suc v)) (suc φ) small from to = absurd (omega arith)

heard_quorum : (v : ℕ) → v < 2 → DecideQuorum (two_way_hall 4 1) (heard v) 3 v
unfolding heard two_way tally count
heard_quorum zero small = record { decide = refl; course = omega arith; enough = omega arith }
heard_quorum (suc zero) small = record { decide = refl; course = omega arith; enough = omega arith }
heard_quorum (suc (suc v)) small = absurd (omega arith)

-- after phase 3: all three stand in phase 4, decided
abbrev told : ℕ → History
told v = record {
  honest = λ j. ltb j 3;
  kept = λ i. heard v;
  announced = λ j φ w. heard v φ j w;
  phase = λ i. 4;
  value = λ i. v;
  decided = λ i. true;
  decision = λ i. Some v;
}

told_filled : (v : ℕ) → v < 2 → Filled (two_way_hall 4 1) (heard v)
told_filled v small = record {
  valid = λ φ j w e.
      let h = heard_parts v φ j w e in
      (heard v, (λ ψ k x k_said. k_said), rw h.value (heard_valid v φ small h.from (omega (arith, h.to))));
}

told_laws : (v : ℕ) → v < 2 → Laws (two_way_hall 4 1) (told v)
unfolding count
told_laws v small = record {
  few = omega arith;
  authentic = λ i j φ w hi hj e. e;
  one_voice = λ j φ w x hj p q. let a = heard_parts v φ j w p in let b = heard_parts v φ j x q in omega (arith, a.value, b.value);
  so_far = λ j φ w hj p. let a = heard_parts v φ j w p in omega (arith, a.to);
  present = λ j w hj p. let a = heard_parts v 4 j w p in a.value;
  filled = λ i hi. told_filled v small;
  rests = λ i w hi e. let same : v ≡ w = cc in (3, omega arith, subst (λ (x : ℕ). DecideQuorum (two_way_hall 4 1) (heard v) 3 x) same (heard_quorum v small));
}

-- each of the two courses can be decided
pub can_decide : (v : ℕ) → v < 2 → CanDecide v
can_decide v small = record {
  history = told v;
  laws = told_laws v small;
  status = record { decided = λ i hi e. (v, refl); undecided = λ i hi e far. absurd (true≢false e) };
  standing = record {
    value = λ i hi far. (heard v, (λ ψ k x k_said. k_said), heard_valid v 4 small (omega arith) (omega arith));
    decided = λ i hi e. (3, omega arith, heard_quorum v small);
  };
  faulty = refl;
  held = refl;
}
