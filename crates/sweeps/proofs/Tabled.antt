-- The table of rows, made one row after another.
use Rattle.std.proofs.Common.{List, ◌++◌, Option, Some, None}
use Rattle.sweeps.specs.declared.row.Row.{Row}

-- rows in front of a table, where there is one
abbrev pub behind : List Row → Option (List Row) → Option (List Row)
behind front None = None
behind front (Some rows) = Some (front ++ rows)
