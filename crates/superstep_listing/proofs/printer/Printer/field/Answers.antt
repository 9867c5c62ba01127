use Rattle.std.proofs.Common.{sym, ap, arith}
use Rattle.std.proofs.Math.Facts.{to_z_pos}
use Rattle.std.specs.Fmt.{signed_decimal}
use Rattle.text_out.proofs.Printed.{printed_as, prints_then}
use Rattle.superstep_listing.proofs.Printed.{printed-field}
use Rattle.superstep_listing.proofs.printer.Printer.field.Goals as goal
use mir.Syntax.{w64}

pub returns-clause-prints : goal.returns-clause-prints
returns-clause-prints g c =
    let number = printed_as (ap signed_decimal (sym (to_z_pos w64 (omega arith)))) c.number.ensures.prints in
    printed_as (printed-field c.args.name.now c.args.number)
    (prints_then c.text.ensures.prints (prints_then c.text-2.ensures.prints (prints_then number c.text-3.ensures.prints)))
