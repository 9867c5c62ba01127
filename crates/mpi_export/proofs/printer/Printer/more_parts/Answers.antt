use Rattle.std.proofs.Common.{◌∙◌, refl}
use Rattle.std.specs.List.{flat_map}
use Rattle.std.proofs.lemmas.List.{get_or_default}
use Rattle.text_out.proofs.Printed.{printed_more, prints_then}
use Rattle.mpi_export.specs.Alone.{more_part}
use Rattle.mpi_export.proofs.printer.Printer.more_parts.Goals as goal

pub loop-part-preserved : goal.loop-part-preserved
loop-part-preserved g c = (
  c.part.ensures.same_out ∙ c.text.ensures.same_out ∙ c.loop-part.invariant.0,
  printed_more (flat_map (more_part c.args.plan.now c.args.fresh)) (more_part c.args.plan.now c.args.fresh) (λ y ys. refl) _ _ _
      c.args.parts.now c.loop-part.part-index _ c.loop-part.invariant.1 c.loop-part-test.true
      (get_or_default c.args.parts.now c.loop-part.part-index _ _ c.loop-part-test.true)
      (prints_then c.text.ensures.prints c.part.ensures.prints),
)
