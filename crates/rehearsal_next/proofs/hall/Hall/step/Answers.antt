use Rattle.rehearsal_next.specs.Stage.{latest, stage_of}
use Rattle.script.specs.Steps.{actor}
use Rattle.rehearsal_next.proofs.Turns.{stepped}
use Rattle.rehearsal_next.proofs.hall.Hall.step.Goals as goal

pub returns : goal.returns
returns c =
    let e = c.act-answer.ensures in
    let p = stepped c.args.step c.args.bytes (latest (stage_of c.act-answer.new.self) (actor c.args.bytes)) _ _ _ _ _ c.read.ensures e.turned e.lawful c.state-state.ensures in
    record { line = p.line_is; after = p.after_is; lawful = p.lawful; keeps = p.keeps }
