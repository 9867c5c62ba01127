use Rattle.std.proofs.Common.{sym, ap, ◌∙◌, rules}
use Rattle.std.specs.Prelude.{Some}
use Rattle.std.proofs.Math.Facts.{to_z-of_z}
use Rattle.text_out.proofs.Printed.{printed_as}
use Rattle.mpi_export.specs.Program.{declared}
use Rattle.mpi_export.proofs.Rows.{row_of}
use Rattle.mpi_export.proofs.printer.Printer.entry.Goals as goal
use mir.Syntax.{w64}
use mir.Val.{SFits, of_z, to_z}

pub returns-in-Some-clause-prints : goal.returns-in-Some-clause-prints
returns-in-Some-clause-prints g c =
    let name = c.name-in-Some.result.now in
    let low = c.in-Some.low in
    let high = c.in-Some.high in
    let low_fits : SFits w64 low = search rules in
    let high_fits : SFits w64 high = search rules in
    let same = ap (λ z. declared name (Some (z, high))) (sym (to_z-of_z low_fits))
    ∙ ap (λ z. declared name (Some (to_z w64 (of_z w64 low), z))) (sym (to_z-of_z high_fits)) in
    row_of _ _ _ name _ (Some (low, high)) c.in-Some.is c.name-in-Some.ensures c.bounds.ensures (printed_as same c.array.ensures.prints)
