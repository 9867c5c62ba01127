use Rattle.std.proofs.Common.{sym, ap}
use Rattle.std.specs.List.{flat_map}
use Rattle.text_out.proofs.Printed.{printed_as, prints_then}
use Rattle.mpi_export.specs.Program.{operand}
use Rattle.mpi_export.proofs.printer.Printer.instr.Goals as goal

pub returns-clause-prints : goal.returns-clause-prints
returns-clause-prints g c =
    let operands = printed_as (ap (flat_map operand) (sym c.numbers-count.ensures.numbers)) c.operands.ensures.prints in
    prints_then c.text.ensures.prints
    (prints_then (printed_as (sym c.letter.ensures.text) c.text-2.ensures.prints)
    (prints_then (printed_as (sym c.stem.ensures.text) c.text-3.ensures.prints)
    (prints_then operands c.text-4.ensures.prints)))
