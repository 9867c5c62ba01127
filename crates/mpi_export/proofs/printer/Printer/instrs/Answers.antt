use Rattle.std.proofs.Common.{◌∙◌, refl}
use Rattle.std.specs.List.{flat_map}
use Rattle.std.proofs.lemmas.List.{get_or_default}
use Rattle.text_out.proofs.Printed.{printed_more}
use Rattle.mpi_export.specs.Program.{instr_row}
use Rattle.mpi_export.proofs.printer.Printer.instrs.Goals as goal

pub loop-instr-preserved : goal.loop-instr-preserved
loop-instr-preserved g c = (
  c.instr.ensures.same_out ∙ c.loop-instr.invariant.0,
  printed_more (flat_map instr_row) instr_row (λ y ys. refl) _ _ _ c.args.instrs.now c.loop-instr.instr-index _ c.loop-instr.invariant.1
      c.loop-instr-test.true
      (get_or_default c.args.instrs.now c.loop-instr.instr-index _ _ c.loop-instr-test.true) c.instr.ensures.prints,
)
