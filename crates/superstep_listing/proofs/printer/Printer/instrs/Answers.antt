use Rattle.std.proofs.Common.{◌∙◌}
use Rattle.std.proofs.lemmas.List.{get_or_default}
use Rattle.superstep_listing.proofs.Printed.{instrs_more}
use Rattle.superstep_listing.proofs.printer.Printer.instrs.Goals as goal

pub loop-place-preserved : goal.loop-place-preserved
loop-place-preserved g c = (
  c.instr.ensures.same_out ∙ c.loop-place.invariant.0,
  instrs_more _ _ _ c.args.instrs.now c.loop-place.place _ c.loop-place.invariant.1 c.loop-place-test.true
      (get_or_default c.args.instrs.now c.loop-place.place _ _ c.loop-place-test.true) c.instr.ensures.prints,
)
