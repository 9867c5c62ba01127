use Rattle.std.proofs.Common.{sym, ap, rules}
use Rattle.std.proofs.Math.Facts.{to_z-of_z}
use Rattle.text_out.proofs.Printed.{printed_as, prints_then}
use Rattle.mpi_export.specs.Program.{c_number}
use Rattle.mpi_export.proofs.printer.Printer.array.Goals as goal
use mir.Syntax.{w64}
use mir.Val.{SFits}

pub returns-clause-prints : goal.returns-clause-prints
returns-clause-prints g c =
    let low_fits : SFits w64 c.args.low = search rules in
    let high_fits : SFits w64 c.args.high = search rules in
    let low = printed_as (ap c_number (sym (to_z-of_z low_fits))) c.number.ensures.prints in
    let high = printed_as (ap c_number (sym (to_z-of_z high_fits))) c.number-2.ensures.prints in
    prints_then c.text.ensures.prints (prints_then c.text-2.ensures.prints (prints_then c.text-3.ensures.prints
    (prints_then low (prints_then c.text-4.ensures.prints (prints_then high c.text-5.ensures.prints)))))
