use Rattle.text_out.proofs.Printed.{prints_then}
use Rattle.mpi_export.proofs.printer.Printer.alone_runtime.Goals as goal

pub returns-clause-prints : goal.returns-clause-prints
returns-clause-prints g c =
    prints_then c.text.ensures.prints (prints_then c.text-2.ensures.prints (prints_then c.text-3.ensures.prints
    (prints_then c.text-4.ensures.prints (prints_then c.text-5.ensures.prints (prints_then c.text-6.ensures.prints
    (prints_then c.text-7.ensures.prints (prints_then c.text-8.ensures.prints c.text-9.ensures.prints)))))))
