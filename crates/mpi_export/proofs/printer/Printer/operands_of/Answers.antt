use Rattle.text_out.proofs.Printed.{printed_as, prints_then}
use Rattle.mpi_export.proofs.Printed.{parts_cut}
use Rattle.mpi_export.proofs.printer.Printer.operands_of.Goals as goal

pub returns-in-len1-up-clause-prints : goal.returns-in-len1-up-clause-prints
returns-in-len1-up-clause-prints g c =
    printed_as (parts_cut c.args.plan.now c.args.fresh c.args.parts.now _ c.in-len1-up.len_at_least)
    (prints_then c.part.ensures.prints c.more_parts.ensures.prints)
