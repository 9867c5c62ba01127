use Rattle.std.proofs.Common.{sym, ap}
use Rattle.std.specs.List.{flat_map}
use Rattle.std.specs.Prelude.{codes}
use Rattle.text_out.proofs.Printed.{printed_as, prints_then}
use Rattle.mpi_export.specs.Program.{definition, instr_row}
use Rattle.mpi_export.proofs.printer.Printer.instructions.Goals as goal

pub returns-clause-prints : goal.returns-clause-prints
returns-clause-prints g c =
    let uniform = printed_as (ap (definition (codes "UNIFORM")) (sym c.uniform_registers.ensures.value)) c.definition.ensures.prints in
    let private = printed_as (ap (definition (codes "PRIVATE")) (sym c.private_registers.ensures.value)) c.definition-2.ensures.prints in
    let instrs = printed_as (ap (flat_map instr_row) (sym c.instructions.ensures.value)) c.instrs.ensures.prints in
    prints_then uniform (prints_then private (prints_then c.text.ensures.prints (prints_then instrs c.text-2.ensures.prints)))
