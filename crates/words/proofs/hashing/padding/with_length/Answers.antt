-- The length is copied to the end.
use Rattle.std.proofs.Common.{◌∙◌, arith}
use Rattle.words.proofs.Digest.{plain_bytes}
use Rattle.words.proofs.Padding.{put_end}
use Rattle.words.proofs.hashing.padding.with_length.Goals as goal

pub returns : goal.returns
returns c =
    put_end c.args.block c.copy_from_slice.new.self _ (omega arith) (c.copy_from_slice.ensures.after ∙ c.to_be_bytes.ensures ∙ plain_bytes 8 c.args.bits)
