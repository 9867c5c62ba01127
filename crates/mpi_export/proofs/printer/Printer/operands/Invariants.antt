use Rattle.std.proofs.Common.{◌≡◌}
use Rattle.std.specs.List.{flat_map}
use Rattle.text_out.specs.Printing.{printing}
use Rattle.text_out.proofs.Printed.{PrintedTo}
use Rattle.mpi_export.specs.Program.{operand}
use Rattle.mpi_export.proofs.printer.Printer.operands.Given as goal

abbrev pub invariant-loop-number : goal.invariant-loop-number
invariant-loop-number g l =
    (l.self.out.ghost_name ≡ l.fn.self.out.ghost_name)
    × PrintedTo (flat_map operand) (printing (g.W.Out.state l.fn.self.out.now) l.fn.self.failed)
    (printing (g.W.Out.state l.self.out.now) l.self.failed) l.numbers l.number-index
