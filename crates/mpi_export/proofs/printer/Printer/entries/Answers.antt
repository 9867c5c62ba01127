use Rattle.std.proofs.Common.{◌∙◌, refl, subst, ◌<◌}
use Rattle.std.specs.List.{flat_map}
use Rattle.mpi_export.specs.Program.{entry_row}
use Rattle.superstep_listing.proofs.Printed.{printed_entry}
use Rattle.mpi_export.proofs.printer.Printer.entries.Goals as goal

pub loop-i-preserved : goal.loop-i-preserved
loop-i-preserved g c = (
  c.entry.ensures.same_out ∙ c.loop-i.invariant.0,
  printed_entry (flat_map entry_row) entry_row (λ y ys. refl) _ _ _
      c.args.layout.now c.loop-i.i c.loop-i.invariant.1 (subst (λ n. c.loop-i.i < n) c.len-i-end.ensures c.loop-i-test.true)
      c.entry.ensures.prints,
)
