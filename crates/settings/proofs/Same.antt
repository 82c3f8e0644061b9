-- Settings with the same numbers are the same.
use Rattle.std.proofs.Common.{◌≡◌, ℕ, ap, subst}
use Rattle.settings.specs.Making.{settings_numbers}
use Rattle.settings.specs.contracts.settings.Settings.{the_values, the_ghost, the_propositions, struct}
use Rattle.settings.specs.declared.settings.Settings.{Settings}

same_from_values : (s t : Settings) → struct.as_values s ≡ struct.as_values t → s ≡ t
same_from_values s t e =
    subst
    (λ (v : the_values). (g : the_ghost v) → s ≡ struct.make v g)
    e
    (λ g. ap (struct.make (struct.as_values s)) (the_propositions (struct.as_values s) (struct.ghosts s) g))
    (struct.ghosts t)

pub same_from_numbers : (s t : Settings) → settings_numbers s ≡ settings_numbers t → s ≡ t
same_from_numbers s t e = same_from_values s t (ap (λ (x : ℕ × ℕ × ℕ). (x.0, (x.1, (x.2, tt)))) e)
