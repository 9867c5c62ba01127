use Rattle.std.proofs.Common.{ℕ, List, subst}
use Rattle.std.specs.Prelude.{codes}
use Rattle.text_out.specs.Out.{Writes}
use Rattle.svg_texts.specs.Shapes.{shape_text}
use Rattle.svg_texts.specs.declared.form.Form.TheVariants as form
use Rattle.pictures.specs.Flows.Picture.{meaning}
use Rattle.pictures.proofs.flows.key.write_dashed_key.Goals as goal

pub returns : goal.returns
returns g c =
    record {
      written = subst (λ (t : List ℕ). Writes (g.W.Out.state c.args.out.now) (g.W.Out.state c.write_meaning.new.out) t
          c.write_meaning.result)
          (λ i. shape_text (meaning (form.Line 12 80 46 80) (c.black.ensures i) 54 84 (codes "dashed: for a subscript alone")))
          c.write_meaning.ensures.written;
    }
