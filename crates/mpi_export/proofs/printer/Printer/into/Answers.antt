use Rattle.std.proofs.Common.{sym, ap}
use Rattle.std.specs.Prelude.{codes}
use Rattle.text_out.proofs.Printed.{printed_as, prints_then}
use Rattle.mpi_export.specs.Alone.{when}
use Rattle.mpi_export.proofs.printer.Printer.into.Goals as goal

pub returns-clause-prints : goal.returns-clause-prints
returns-clause-prints g c =
    prints_then (printed_as (ap (λ b. when b (codes "int64_t ")) (sym c.declares.ensures)) c.when.ensures.prints) c.of_each.ensures.prints
