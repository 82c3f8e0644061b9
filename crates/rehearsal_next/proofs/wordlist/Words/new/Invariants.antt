use Rattle.std.proofs.Common.{◌≡◌, vec_items}
use Rattle.rehearsal_next.specs.Words.{words_to}
use Rattle.rehearsal_next.proofs.wordlist.Words.new.Given as goal

-- the words of the places so far
abbrev pub invariant-loop-place : goal.invariant-loop-place
invariant-loop-place l = vec_items l.entries ≡ words_to l.place
