-- One more word at each turn, and at the end the sixteen.
use Rattle.std.proofs.Common.{take, ◌∙◌, arith}
use Rattle.std.proofs.lemmas.List.FromFn.{fill_by_all}
use Rattle.std.proofs.lemmas.List.Edits.{fill_by_more}
use Rattle.std.proofs.lemmas.List.{length-set, length-take-le, get_or-take}
use Rattle.words.specs.Padding.{word, words}
use Rattle.words.proofs.Chunks.{word_at}
use Rattle.words.proofs.hashing.compression.read_words.Goals as goal

pub loop-t-preserved : goal.loop-t-preserved
loop-t-preserved c =
    let read = c.read_word.ensures ∙ word_at c.args.block.now c.as_chunks.result.0.now _ c.loop-t.t c.as_chunks.ensures.front (omega arith) in (
      length-set c.loop-t.w c.loop-t.t c.read_word.result ∙ c.loop-t.invariant.0,
      simp read (fill_by_more (word c.args.block.now) c.loop-t.w c.loop-t.t 0 (omega arith) c.loop-t.invariant.1),
    )

pub returns : goal.returns
unfolding words
returns c =
    fill_by_all (word c.args.block.now) (take 16 c.loop-t.w) 16 0 (length-take-le 16 c.loop-t.w (omega arith))
    (λ k h. get_or-take 16 c.loop-t.w k 0 h ∙ c.loop-t.invariant.1 k (omega arith))
