use Rattle.std.proofs.Common.{◌-◌, length, map}
use Rattle.pictures.specs.Flows.Cells.{touched}
use Rattle.pictures.specs.Flows.Drawing.{column_is, entries_of}
use Rattle.pictures.proofs.OfFlows.RowLists.{InRows}
use Rattle.pictures.proofs.flows.rows.first_rows.Given as goal

abbrev pub invariant-rows : goal.invariant-rows
invariant-rows l = InRows (touched l.fn.only (entries_of (map column_is l.fn.columns))) l.found.items l.start

abbrev pub decreases-rows : goal.decreases-rows
decreases-rows l = 65 - length l.found.items
