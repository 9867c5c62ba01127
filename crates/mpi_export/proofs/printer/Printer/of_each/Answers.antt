use Rattle.std.proofs.Common.{sym, ◌∙◌}
use Rattle.text_out.proofs.Printed.{printed_as, prints_then}
use Rattle.mpi_export.proofs.Printed.{column_text}
use Rattle.mpi_export.proofs.printer.Printer.of_each.Goals as goal

pub returns-then-is_column-clause-prints : goal.returns-then-is_column-clause-prints
returns-then-is_column-clause-prints g c =
    printed_as (column_text c.args.plan.now c.args.register (sym c.is_index.ensures ∙ c.if-is_index.false)
    (sym c.is_column.ensures ∙ c.if-is_column.true)) (prints_then c.name.ensures.prints c.text-then-is_column.ensures.prints)
