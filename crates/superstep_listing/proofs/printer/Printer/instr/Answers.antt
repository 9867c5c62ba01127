use Rattle.std.proofs.Common.{sym, ap, arith}
use Rattle.std.proofs.Math.Facts.{to_z_pos}
use Rattle.std.specs.Fmt.{signed_decimal}
use Rattle.text_out.proofs.Printed.{printed_as, prints_then}
use Rattle.superstep_listing.specs.Cutting.{spaced}
use Rattle.superstep_listing.proofs.Printed.{printed-instr}
use Rattle.superstep_listing.proofs.printer.Printer.instr.Goals as goal
use mir.Syntax.{w64}

pub returns-clause-prints : goal.returns-clause-prints
returns-clause-prints g c =
    let number = printed_as (ap signed_decimal (sym (to_z_pos w64 (omega arith)))) c.number.ensures.prints in
    let operands = printed_as (ap spaced (sym c.numbers-count.ensures.numbers)) c.numbers.ensures.prints in
    printed_as (printed-instr c.args.place c.args.instr)
    (prints_then number (prints_then c.text.ensures.prints
    (prints_then (printed_as (sym c.letter.ensures.text) c.text-2.ensures.prints)
    (prints_then (printed_as (sym c.stem.ensures.text) c.text-3.ensures.prints)
    (prints_then operands c.text-4.ensures.prints)))))
