use Rattle.rehearsal_next.proofs.Entries.{word_from}
use Rattle.rehearsal_next.proofs.wordlist.Words.word.Goals as goal

pub returns : goal.returns
returns c = word_from _ _ _ _ _ _ c.sealer.ensures c.from.ensures c.seal.ensures.word
