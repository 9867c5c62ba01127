use Rattle.std.proofs.Common.{◌≡◌}
use Rattle.text_out.specs.Printing.{printing}
use Rattle.mpi_export.proofs.Printed.{RowsPrinted}
use Rattle.mpi_export.proofs.printer.Printer.rows.Given as goal

abbrev pub invariant-loop-at : goal.invariant-loop-at
invariant-loop-at g l =
    (l.self.out.ghost_name ≡ l.fn.self.out.ghost_name)
    × RowsPrinted l.plan (printing (g.W.Out.state l.fn.self.out.now) l.fn.self.failed)
    (printing (g.W.Out.state l.self.out.now) l.self.failed) l.at
