use Rattle.std.proofs.Common.{sym, ◌∙◌, rules}
use Rattle.text_out.proofs.Printed.{printed_as, prints_then}
use Rattle.mpi_export.proofs.Rows.{complemented}
use Rattle.mpi_export.proofs.printer.Printer.number.Goals as goal
use mir.Syntax.{w64}
use mir.Val.{SFits}

pub returns-then-number-lt0-clause-prints : goal.returns-then-number-lt0-clause-prints
returns-then-number-lt0-clause-prints g c =
    let fits : SFits w64 c.args.number = search rules in
    let digits = printed_as (sym (c.as_bytes.ensures.value ∙ c.format.ensures.text)) c.text-then-number-lt0.ensures.prints in
    printed_as (complemented c.args.number fits c.if-number-lt0.true) (prints_then c.text.ensures.prints digits)
