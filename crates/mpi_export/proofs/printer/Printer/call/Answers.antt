use Rattle.std.proofs.Common.{sym, ap}
use Rattle.text_out.proofs.Printed.{printed_as, prints_then}
use Rattle.mpi_export.specs.Alone.{parts_text}
use Rattle.mpi_export.proofs.printer.Printer.call.Goals as goal

pub returns-clause-prints : goal.returns-clause-prints
returns-clause-prints g c =
    let letter = printed_as (sym c.letter.ensures.text) c.text-2.ensures.prints in
    let stem = printed_as (sym c.stem.ensures.text) c.text-3.ensures.prints in
    let parts = printed_as (ap (parts_text c.args.plan.now c.args.fresh) (sym c.parts-count.ensures.parts)) c.operands_of.ensures.prints in
    prints_then c.text.ensures.prints (prints_then letter (prints_then stem (prints_then c.text-4.ensures.prints
    (prints_then parts c.text-5.ensures.prints))))
