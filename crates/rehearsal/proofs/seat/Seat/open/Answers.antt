use Rattle.std.proofs.Common.{◌≡◌, vec_items, sym, ◌∙◌, arith}
use Rattle.std.proofs.lemmas.Grind.{common_steps}
use Rattle.script.proofs.Stages.{not_open}
use Rattle.rehearsal.proofs.seat.Seat.open.Goals as goal

pub returns-in_err-cabin-clause-after : goal.returns-in_err-cabin-clause-after
returns-in_err-cabin-clause-after c =
    let shut = not_open _ (sym c.if-is_some.ensures) in
    let same : c.open.new.table ≡ vec_items c.args.self.now.table = c.in_err-cabin.ensures.table ∙ c.as_mut_slice-table.ensures.value in
    grind (arith, common_steps)
