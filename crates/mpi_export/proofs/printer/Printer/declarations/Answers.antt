use Rattle.std.proofs.Common.{sym, ap}
use Rattle.std.specs.List.{flat_map}
use Rattle.std.specs.Prelude.{codes}
use Rattle.text_out.proofs.Printed.{printed_as, prints_then}
use Rattle.mpi_export.specs.Program.{definition, entry_row, rule_definition}
use Rattle.mpi_export.proofs.printer.Printer.declarations.Goals as goal

pub returns-clause-prints : goal.returns-clause-prints
returns-clause-prints g c =
    let rule = printed_as (ap rule_definition (sym c.rule.ensures.value)) c.rule-2.ensures.prints in
    let procs = printed_as (ap (definition (codes "PROCS")) (sym c.procs.ensures.value)) c.definition.ensures.prints in
    let entries = printed_as (ap (flat_map entry_row) (sym c.layout.ensures.value)) c.entries.ensures.prints in
    prints_then rule (prints_then procs (prints_then c.text.ensures.prints (prints_then entries c.text-2.ensures.prints)))
