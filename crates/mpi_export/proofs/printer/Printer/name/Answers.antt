use Rattle.std.proofs.Common.{sym, ◌∙◌}
use Rattle.text_out.proofs.Printed.{printed_as, prints_then}
use Rattle.mpi_export.proofs.printer.Printer.name.Goals as goal

pub returns-clause-prints : goal.returns-clause-prints
returns-clause-prints g c =
    prints_then c.text.ensures.prints (printed_as (sym (c.as_bytes.ensures.value ∙ c.format.ensures.text)) c.text-2.ensures.prints)
