-- The settings of every rehearsal. Assumes nothing.
use Rattle.std.specs.Prelude.{refl}
use Rattle.std.proofs.Common.{lit<, lit≤}
use Rattle.settings.specs.declared.settings.Settings.{Settings}

-- four cabins, one of which may be faulty, and the last phase 12
abbrev pub rehearsal_settings : Settings
rehearsal_settings = record {
  cabins = 4;
  faults = 1;
  phases = 12;
  fewest = lit≤ tt;
  most = lit≤ tt;
  third = lit< tt;
  first = lit≤ tt;
  last = lit≤ tt;
  cycles = refl;
}
