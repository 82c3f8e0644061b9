-- A table with its settings. Assumes nothing.
use Rattle.agreement.specs.Rules as rules
use Rattle.table.specs.Places.{records_of}
use Rattle.table.specs.declared.view.Table.{Table}

-- the records of a table with the settings of its hall
abbrev pub records : Table → rules.Table
records t = records_of t.settings t.places.now
