-- One more word of the schedule.
use Rattle.std.proofs.Common.{◌∙◌, arith}
use Rattle.std.proofs.lemmas.List.{length-set}
use Rattle.words.proofs.Schedule.{words_more}
use Rattle.words.proofs.hashing.compression.extend.Goals as goal

pub loop-t-preserved : goal.loop-t-preserved
loop-t-preserved c = (
  length-set c.loop-t.w c.loop-t.t c.next_word.result ∙ c.loop-t.invariant.0,
  simp c.next_word.ensures (words_more _ c.loop-t.w c.loop-t.t (omega arith) (omega arith) c.loop-t.invariant.0 c.loop-t.invariant.1),
)
