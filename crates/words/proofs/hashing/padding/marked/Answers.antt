-- The rest is copied to the front, and the byte 80h put after it.
use Rattle.std.proofs.Common.{◌∙◌}
use Rattle.words.proofs.Padding.{marked}
use Rattle.words.proofs.hashing.padding.marked.Goals as goal

pub returns : goal.returns
returns c = c.mark.ensures ∙ marked c.args.rest.now c.copy_from_slice.new.self c.requires c.copy_from_slice.ensures.after
