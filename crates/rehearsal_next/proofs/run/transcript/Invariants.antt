use Rattle.std.proofs.Common.{string_bytes}
use Rattle.std.specs.Iterator.Adapters.{enumerate_count}
use Rattle.script.proofs.Pieces.{Cut}
use Rattle.rehearsal_next.specs.Stage.{stage_of}
use Rattle.rehearsal_next.proofs.Turns.{Played}
use Rattle.rehearsal_next.proofs.run.transcript.Given as goal

-- the hall and the text are those of the steps that were cut off
abbrev pub invariant-loop-k : goal.invariant-loop-k
invariant-loop-k l = record {
  cut : Cut l.input l.k-iterator;
  played : Played l.input (enumerate_count l.k-iterator) (stage_of l.hall) (string_bytes l.text);
}
