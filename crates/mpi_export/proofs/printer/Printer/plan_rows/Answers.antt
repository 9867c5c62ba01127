use Rattle.std.proofs.Common.{sym, ap, ◌∙◌}
use Rattle.std.specs.List.{flat_map, range_with_len}
use Rattle.text_out.proofs.Printed.{printed_as, prints_then}
use Rattle.mpi_export.specs.Alone.{register_row}
use Rattle.mpi_export.proofs.printer.Printer.plan_rows.Goals as goal

pub returns-clause-prints : goal.returns-clause-prints
returns-clause-prints g c =
    let registers = printed_as (ap (λ n. flat_map register_row (range_with_len 0 n))
    (ap (λ k. k.uniform_registers) (sym c.code.ensures.value) ∙ sym c.uniform_registers.ensures.value))
    c.registers.ensures.prints in
    prints_then c.text.ensures.prints (prints_then registers (prints_then c.columns.ensures.prints
    (prints_then c.rows.ensures.prints c.text-2.ensures.prints)))
