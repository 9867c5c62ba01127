use Rattle.text_out.proofs.Printed.{prints_then}
use Rattle.mpi_export.proofs.printer.Printer.column_table.Goals as goal

pub returns-clause-prints : goal.returns-clause-prints
returns-clause-prints g c =
    prints_then c.text.ensures.prints (prints_then c.numbers_of_columns.ensures.prints c.text-2.ensures.prints)
