use Rattle.std.proofs.Common.{ap, ◌∙◌, arith, rules}
use Rattle.support.specs.declared.chosen.Chosen.{Chosen}
use Rattle.support.proofs.Passing.{filled_in, filled_out, filled_enough}
use Rattle.support.proofs.chosen.Chosen.fill_up.Goals as goal
use Rattle.support.proofs.chosen.Chosen.fill_up.Goals.{then-cabins-most+in-Some, else-cabins-most, else-cabins-most-via-then-cabins-most+in-None-1, else-cabins-most-via-else-cabins-most}

pub loop-cabin-preserved : goal.loop-cabin-preserved
loop-cabin-preserved c =
    elim c.if-cabins-most.branch [
      | then-cabins-most+in-Some w ↦ filled_in _ _ _ _ _ _ _ _ _ _ _ _ _ c.loop-cabin.invariant w.if-cabins-most.true (omega arith) w.in-Some.ensures (ap (λ (x : Chosen). x.places) w.self-is ∙ w.copy.ensures) w.cabins-is
      | else-cabins-most w ↦ filled_out _ _ _ _ _ _ _ _ _ _ _ _ c.loop-cabin.invariant (elim w.else-cabins-most.branch [
        | else-cabins-most-via-then-cabins-most+in-None-1 w' ↦ λ less. search rules
        | else-cabins-most-via-else-cabins-most w' ↦ λ less. absurd (omega (arith, w'.if-cabins-most.false))
      ]) (ap (λ (x : Chosen). x.places) w.self-is) w.cabins-is
    ]

pub returns-clause-enough : goal.returns-clause-enough
returns-clause-enough c = filled_enough _ _ _ _ _ _ _ _ _ _ (omega arith) c.loop-cabin.invariant
