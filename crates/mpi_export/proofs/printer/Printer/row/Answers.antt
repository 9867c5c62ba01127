use Rattle.text_out.proofs.Printed.{prints_then}
use Rattle.mpi_export.proofs.printer.Printer.row.Goals as goal

pub returns-clause-prints : goal.returns-clause-prints
returns-clause-prints g c =
    prints_then c.when.ensures.prints (prints_then c.label.ensures.prints (prints_then c.when-2.ensures.prints c.call.ensures.prints))
