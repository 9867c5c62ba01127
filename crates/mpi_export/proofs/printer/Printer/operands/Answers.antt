use Rattle.std.proofs.Common.{◌∙◌, refl, ap, sym, get_or, rules}
use Rattle.std.specs.Prelude.{pos}
use Rattle.std.specs.List.{flat_map}
use Rattle.std.proofs.lemmas.List.{get_or_default}
use Rattle.std.proofs.Math.Facts.{to_z-of_z}
use Rattle.text_out.proofs.Printed.{printed_as, printed_more, prints_then}
use Rattle.mpi_export.specs.Program.{c_number, operand}
use Rattle.mpi_export.proofs.printer.Printer.operands.Goals as goal
use mir.Syntax.{w64}
use mir.Val.{SFits}

pub loop-number-preserved : goal.loop-number-preserved
loop-number-preserved g c = (
  c.number.ensures.same_out ∙ c.text.ensures.same_out ∙ c.loop-number.invariant.0,
  let xs = c.args.numbers.now in
      let i = c.loop-number.number-index in
      let fits : SFits w64 (get_or xs i (pos 0)) = search rules in
      let number = printed_as (ap c_number (sym (to_z-of_z fits))) c.number.ensures.prints in
      printed_more (flat_map operand) operand (λ y ys. refl) _ _ _ xs i (get_or xs i (pos 0)) c.loop-number.invariant.1
      c.loop-number-test.true
      (get_or_default xs i (pos 0) _ c.loop-number-test.true) (prints_then c.text.ensures.prints number),
)
