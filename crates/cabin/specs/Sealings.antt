-- A sealer's meaning, by what its trait says of it. Assumes nothing.
use Rattle.words.specs.declared.sealer.Sealer.{Ghosts}
use Rattle.moves.specs.Announcing.{Sealing, sealing}

abbrev pub sealing_of : {S : Type 0} → Ghosts S → S → Sealing
sealing_of trait s = sealing (trait.owner s) (trait.last s) (trait.seals s)
