use Rattle.std.proofs.Common.{sym, ◌∙◌}
use Rattle.text_out.proofs.Printed.{printed_as, prints_then}
use Rattle.mpi_export.proofs.Printed.{when_true, column_regrouped}
use Rattle.mpi_export.proofs.printer.Printer.column_row.Goals as goal

pub returns-then-is_column-clause-prints : goal.returns-then-is_column-clause-prints
returns-then-is_column-clause-prints g c =
    printed_as (when_true _ _ (sym c.is_column.ensures ∙ c.if-is_column.true) ∙ column_regrouped c.args.register)
    (prints_then c.name.ensures.prints (prints_then c.name-then-is_column.ensures.prints c.text.ensures.prints))
