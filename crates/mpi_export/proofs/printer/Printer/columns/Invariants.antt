use Rattle.std.proofs.Common.{◌≡◌}
use Rattle.std.specs.List.{flat_map, range_with_len}
use Rattle.text_out.specs.Printing.{printing}
use Rattle.text_out.proofs.Printed.{PrintedTo}
use Rattle.mpi_export.specs.Alone.{column_row}
use Rattle.mpi_export.proofs.printer.Printer.columns.Given as goal

abbrev pub invariant-loop-register : goal.invariant-loop-register
invariant-loop-register g l =
    (l.self.out.ghost_name ≡ l.fn.self.out.ghost_name)
    × PrintedTo (flat_map (column_row l.plan)) (printing (g.W.Out.state l.fn.self.out.now) l.fn.self.failed)
    (printing (g.W.Out.state l.self.out.now) l.self.failed) (range_with_len 0 l.plan.private_registers) l.register
