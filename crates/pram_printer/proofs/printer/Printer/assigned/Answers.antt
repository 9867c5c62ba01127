use Rattle.text_out.proofs.Printed.{prints_then}
use Rattle.pram_printer.proofs.printer.Printer.assigned.Goals as goal

pub returns-clause-prints : goal.returns-clause-prints
returns-clause-prints g c = prints_then c.mark.ensures.prints (prints_then c.expr.ensures.prints c.mark-2.ensures.prints)
