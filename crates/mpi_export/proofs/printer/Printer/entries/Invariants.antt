use Rattle.std.proofs.Common.{◌≡◌}
use Rattle.std.specs.List.{flat_map}
use Rattle.text_out.specs.Printing.{printing}
use Rattle.text_out.proofs.Printed.{PrintedTo}
use Rattle.mpi_export.specs.Program.{entry_row}
use Rattle.mpi_export.proofs.printer.Printer.entries.Given as goal

abbrev pub invariant-loop-i : goal.invariant-loop-i
invariant-loop-i g l =
    (l.self.out.ghost_name ≡ l.fn.self.out.ghost_name)
    × PrintedTo (flat_map entry_row) (printing (g.W.Out.state l.fn.self.out.now) l.fn.self.failed)
    (printing (g.W.Out.state l.self.out.now) l.self.failed) l.layout l.i
