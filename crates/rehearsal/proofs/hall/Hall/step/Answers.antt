use Rattle.rehearsal.proofs.Laws.{keeps_by}
use Rattle.rehearsal.proofs.hall.Hall.step.Goals as goal

pub returns-clause-keeps : goal.returns-clause-keeps
returns-clause-keeps c = keeps_by c.args.bytes _ _ _ _ c.read.ensures c.act-answer.ensures.reply c.act-answer.ensures.after
