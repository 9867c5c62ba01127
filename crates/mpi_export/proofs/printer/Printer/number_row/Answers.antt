use Rattle.std.proofs.Common.{sym, ◌∙◌}
use Rattle.text_out.proofs.Printed.{printed_as, prints_then}
use Rattle.mpi_export.proofs.Printed.{when_true}
use Rattle.mpi_export.proofs.printer.Printer.number_row.Goals as goal

pub returns-then-is_column-clause-prints : goal.returns-then-is_column-clause-prints
returns-then-is_column-clause-prints g c =
    printed_as (when_true _ _ (sym c.is_column.ensures ∙ c.if-is_column.true)) (prints_then c.name.ensures.prints c.text.ensures.prints)
