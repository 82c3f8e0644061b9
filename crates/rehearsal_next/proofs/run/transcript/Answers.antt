use Rattle.std.proofs.Common.{◌∙◌}
use Rattle.script.specs.Steps.{actor}
use Rattle.script.proofs.Pieces.{cut_first, cut_more, cut_none}
use Rattle.rehearsal_next.specs.Stage.{latest, stage_of}
use Rattle.rehearsal_next.proofs.Turns.{played_none, played_more, played_all}
use Rattle.rehearsal_next.proofs.run.transcript.Goals as goal

pub loop-k-init : goal.loop-k-init
loop-k-init c = record {
  cut = cut_first _ _ (cc) (cc) (cc);
  played = rw (c.into_iter-k-iterator.ensures.into_iter_gives, c.enumerate-k-items.ensures.count) (played_none _ _ _ c.in_ok-hall.ensures c.new-text.ensures.bytes);
}

pub loop-k-preserved : goal.loop-k-preserved
loop-k-preserved c =
    let came = cut_more _ _ c.in-Some.piece _ _ c.loop-k.invariant.cut c.in-Some.ensures.steps in
    let e = c.step-line.ensures in
    record {
      cut = came.cut;
      played = rw came.next (played_more _ _ _ _ _ _ c.step_bytes.result (latest (stage_of c.step-line.new.self) (actor c.step_bytes.result)) _ (rw came.number at c.loop-k.invariant.played) (c.step_bytes.ensures ∙ came.bytes) e.line e.after e.lawful c.in_ok-writeln.ensures.bytes);
    }

pub returns : goal.returns
returns c =
    played_all _ _ _ _ c.loop-k.invariant.played (cut_none _ _ _ c.loop-k.invariant.cut c.in-None.ensures.steps)
