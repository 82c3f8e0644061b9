-- The whole blocks of the message, and then the rest of the padded message.
use Rattle.std.proofs.Common.{ap, ◌/◌, length, ◌∙◌, refl}
use Rattle.std.specs.List.{fold}
use Rattle.words.specs.Computation.{compress}
use Rattle.words.proofs.Blocks.{hash_chunks, sha_256_made}
use Rattle.words.proofs.hashing.sha256.Goals as goal

pub returns : goal.returns
returns c =
    let m = c.args.message.now in
    let whole = c.hash_blocks-whole.ensures ∙ ap (fold compress c.initial.result) c.as_chunks.ensures.front ∙ hash_chunks c.initial.result m (length m / 64) in
    c.digest.ensures ∙ sha_256_made m c.initial.result c.hash_blocks-whole.result _ c.hash_rest.result c.initial.ensures whole refl (c.hash_rest.ensures _ refl)
