use Rattle.std.proofs.Common.{ℕ, List, subst}
use Rattle.text_out.specs.Out.{Writes}
use Rattle.svg_texts.specs.declared.colour.Colour.TheVariants.{White}
use Rattle.svg_texts.specs.declared.form.Form.TheVariants as form
use Rattle.svg_texts.specs.Plain.{outlined}
use Rattle.svg_texts.specs.Shapes.{Drawn, shape_text}
use Rattle.pictures.proofs.sizes.shapes.write_square.Goals as goal

pub returns : goal.returns
returns g c = record {
  written = subst (λ (t : List ℕ). Writes (g.W.Out.state c.args.out.now) (g.W.Out.state c.write_outlined.new.out) t
      c.write_outlined.result)
      (λ i. shape_text (Drawn (form.Rectangle (c.saturating_sub-left.ensures i) (c.saturating_sub-top.ensures i) 8 8) (outlined White)))
      c.write_outlined.ensures.written;
}
