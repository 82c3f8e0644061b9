-- What making settings answers. Assumes nothing.
use Rattle.std.specs.Prelude.{ℕ, Ok, Result}
use Rattle.settings.specs.Bounds.{hall_lawful, phases_lawful}
use Rattle.settings.specs.Refusals.{needs}
use Rattle.settings.specs.declared.settings.Settings.{Settings}

-- n, f and the last phase of settings
abbrev pub settings_numbers : Settings → ℕ × ℕ × ℕ
settings_numbers s = (s.cabins, s.faults, s.phases)

-- refusal 1 for n or f, then 2 for the last phase; else settings with these numbers
abbrev pub settings_answer : ℕ → ℕ → ℕ → Result (ℕ × ℕ × ℕ) ℕ
settings_answer n f p = needs (hall_lawful n f) 1 (needs (phases_lawful p) 2 (Ok (n, f, p)))
