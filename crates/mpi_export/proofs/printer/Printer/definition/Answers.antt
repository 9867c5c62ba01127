use Rattle.std.proofs.Common.{sym, ◌∙◌}
use Rattle.text_out.proofs.Printed.{printed_as, prints_then}
use Rattle.mpi_export.proofs.printer.Printer.definition.Goals as goal

pub returns-clause-prints : goal.returns-clause-prints
returns-clause-prints g c =
    let number = printed_as (sym (c.as_bytes.ensures.value ∙ c.format.ensures.text)) c.text-4.ensures.prints in
    prints_then c.text.ensures.prints (prints_then c.text-2.ensures.prints (prints_then c.text-3.ensures.prints
    (prints_then number c.text-5.ensures.prints)))
