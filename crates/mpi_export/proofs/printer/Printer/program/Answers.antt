use Rattle.text_out.proofs.Printed.{prints_then}
use Rattle.mpi_export.proofs.printer.Printer.program.Goals as goal

pub returns-clause-prints : goal.returns-clause-prints
returns-clause-prints g c =
    prints_then c.text.ensures.prints (prints_then c.declarations.ensures.prints
    (prints_then c.instructions.ensures.prints c.runtime.ensures.prints))
