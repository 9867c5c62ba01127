use Rattle.text_out.proofs.Printed.{printed_as, prints_then}
use Rattle.mpi_export.proofs.Printed.{when_true}
use Rattle.mpi_export.proofs.printer.Printer.label.Goals as goal

pub returns-then-is_target-clause-prints : goal.returns-then-is_target-clause-prints
returns-then-is_target-clause-prints g c =
    printed_as (when_true _ _ c.if-is_target.true) (prints_then c.name.ensures.prints c.text.ensures.prints)
