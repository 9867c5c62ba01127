use Rattle.std.proofs.Common.{◌≡◌, drop}
use Rattle.std.specs.List.{list_any}
use Rattle.sweeps.specs.CsvText.{is_mark}
use Rattle.sweeps.proofs.csv_field.has_mark.Given as goal

-- what is left tells what the whole tells
abbrev pub invariant-loop-byte : goal.invariant-loop-byte
invariant-loop-byte l = list_any is_mark l.field ≡ list_any is_mark (drop l.byte-index l.field)
