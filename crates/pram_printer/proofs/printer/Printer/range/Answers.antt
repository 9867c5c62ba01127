use Rattle.text_out.proofs.Printed.{prints_then}
use Rattle.pram_printer.proofs.printer.Printer.range.Goals as goal

pub returns-clause-prints : goal.returns-clause-prints
returns-clause-prints g c =
    prints_then c.expr.ensures.prints (prints_then c.binary.ensures.prints (prints_then c.name.ensures.prints
    (prints_then c.binary-2.ensures.prints (prints_then c.expr-2.ensures.prints c.mark.ensures.prints))))
