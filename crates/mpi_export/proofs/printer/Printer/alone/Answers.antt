use Rattle.std.proofs.Common.{sym, ap}
use Rattle.text_out.proofs.Printed.{printed_as, prints_then}
use Rattle.mpi_export.specs.Program.{declarations}
use Rattle.mpi_export.proofs.printer.Printer.alone.Goals as goal

pub returns-clause-prints : goal.returns-clause-prints
returns-clause-prints g c =
    let declared = printed_as (ap declarations (sym c.code.ensures.value)) c.declarations.ensures.prints in
    prints_then c.text.ensures.prints (prints_then declared (prints_then c.column_table.ensures.prints
    (prints_then c.alone_runtime.ensures.prints (prints_then c.plan_rows.ensures.prints c.text-2.ensures.prints))))
