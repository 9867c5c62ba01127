use Rattle.std.proofs.Common.{ℕ, List, ap, subst}
use Rattle.text_out.specs.Out.{Writes}
use Rattle.svg_texts.specs.Shapes.{shape_text}
use Rattle.pictures.specs.Steps.Measures.{frame_is}
use Rattle.pictures.proofs.OfSteps.ColumnTexts.{front_here}
use Rattle.pictures.proofs.steps.bands.write_front.Goals as goal

pub returns-then-before-eq0 : goal.returns-then-before-eq0
returns-then-before-eq0 g c = record {
  written = subst (λ (t : List ℕ). Writes (g.W.Out.state c.args.out.now) (g.W.Out.state c.write_band_front.new.out) t
      c.write_band_front.result)
      (ap shape_text (front_here (frame_is c.args.frame.now) c.args.before c.rows_top.result c.if-before-eq0.true c.rows_top.ensures.top))
      c.write_band_front.ensures.written;
}
