-- What is left of the padded message is one block or two.
use Rattle.std.proofs.Common.{◌≡◌, ℕ, ◌*◌, ◌/◌, ◌++◌, length, take, drop, ap, ◌∙◌, arith}
use Rattle.words.specs.Computation.{compress}
use Rattle.words.specs.Padding.{bytes}
use Rattle.words.proofs.Padding.{hash_one_left, hash_two_left}
use Rattle.words.proofs.hashing.padding.hash_rest.Goals as goal
use Rattle.words.proofs.hashing.padding.hash_rest.Goals.{then-rest-gt55, else-rest-gt55}

pub returns : goal.returns
returns c =
    λ last l.
    let m = c.args.message.now in
    let front = c.as_chunks.result.1.now in
    let swap : length m / 64 * 64 ≡ 64 * (length m / 64) = omega arith in
    let is : front ≡ drop (64 * (length m / 64)) m = c.as_chunks.ensures.back ∙ ap (λ (n : ℕ). drop n m) swap in
    elim c.if-rest-gt55.branch [
      | then-rest-gt55 w ↦
          c.compress.ensures
          ∙ (λ i. compress ((w.value-is ∙ w.compress-next.ensures) i) ((c.with_length.ensures ∙ λ j. take 56 (w.block-is j) ++ bytes 8 (c.bit_length.ensures j)) i))
          ∙ hash_two_left m front _ last c.args.start is (omega arith) c.marked-block.ensures l
      | else-rest-gt55 w ↦
          c.compress.ensures
          ∙ (λ i. compress (w.value-is i) ((c.with_length.ensures ∙ λ j. take 56 (w.block-is j) ++ bytes 8 (c.bit_length.ensures j)) i))
          ∙ hash_one_left m front _ last c.args.start is (omega arith) c.marked-block.ensures l
    ]
