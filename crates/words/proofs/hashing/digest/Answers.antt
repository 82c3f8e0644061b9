-- One more word at each turn, and at the end all of them.
use Rattle.std.proofs.Common.{◌*◌, ◌≤◌, length, get_or, sym, refl, ap, ◌∙◌, arith}
use Rattle.std.proofs.lemmas.List.{take_all}
use Rattle.words.specs.Computation.{digest}
use Rattle.words.proofs.Digest.{digest_more, length_copied, plain_bytes}
use Rattle.words.proofs.hashing.digest.Goals as goal

pub loop-i-init : goal.loop-i-init
unfolding digest
loop-i-init c = (refl, refl)

pub loop-i-preserved : goal.loop-i-preserved
loop-i-preserved c = (
  length_copied (4 * c.loop-i.i) _ c.loop-i.bytes c.copy_from_slice.new.self (omega arith) (omega arith) ∙ c.loop-i.invariant.0,
  digest_more c.args.value c.loop-i.bytes c.copy_from_slice.new.self c.loop-i.i _ (omega arith) (omega arith) c.loop-i.invariant.1
      (c.copy_from_slice.ensures.after ∙ c.to_be_bytes.ensures ∙ plain_bytes 4 (get_or c.args.value c.loop-i.i 0)),
)

pub returns : goal.returns
returns c =
    let all : length c.args.value ≤ c.loop-i.i = omega arith in
    sym (take_all (4 * c.loop-i.i) c.loop-i.bytes (omega arith)) ∙ c.loop-i.invariant.1
    ∙ ap digest (take_all c.loop-i.i c.args.value all)
