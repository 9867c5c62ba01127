use Rattle.std.proofs.Common.{◌≡◌}
use Rattle.std.specs.List.{flat_map}
use Rattle.text_out.specs.Printing.{printing}
use Rattle.text_out.proofs.Printed.{PrintedTo}
use Rattle.mpi_export.specs.Alone.{more_part}
use Rattle.mpi_export.proofs.printer.Printer.more_parts.Given as goal

abbrev pub invariant-loop-part : goal.invariant-loop-part
invariant-loop-part g l =
    (l.self.out.ghost_name ≡ l.fn.self.out.ghost_name)
    × PrintedTo (flat_map (more_part l.plan l.fresh)) (printing (g.W.Out.state l.fn.self.out.now) l.fn.self.failed)
    (printing (g.W.Out.state l.self.out.now) l.self.failed) l.parts l.part-index
