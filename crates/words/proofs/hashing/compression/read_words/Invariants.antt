-- The words below t are those of the block.
use Rattle.std.proofs.Common.{◌≡◌, ℕ, ◌<◌, get_or, length}
use Rattle.words.specs.Padding.{word}
use Rattle.words.proofs.hashing.compression.read_words.Given as goal

abbrev pub invariant-loop-t : goal.invariant-loop-t
invariant-loop-t l = (length l.w ≡ 64) × ((k : ℕ) → k < l.t → get_or l.w k 0 ≡ word l.block k)
