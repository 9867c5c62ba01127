use Rattle.std.proofs.Common.{◌∙◌, ℕ, List, ap, map, subst}
use Rattle.text_out.specs.Out.{Writes}
use Rattle.svg_texts.specs.Shapes.{picture_text}
use Rattle.pictures.specs.Flows.Cells.{rows_and_next}
use Rattle.pictures.specs.Flows.Drawing.{column_is, drawing_is, entries_of}
use Rattle.pictures.specs.Flows.Picture.{picture_of}
use Rattle.pictures.proofs.flows.picture.write_flow.Goals as goal

pub returns : goal.returns
returns g c =
    let found = c.as_slice.ensures.value ∙ c.rows_and_next-found.ensures
    ∙ ap (λ cs. rows_and_next c.args.only.now (entries_of (map column_is cs))) c.deref.ensures.value in
    record {
      written = subst (λ (t : List ℕ). Writes (g.W.Out.state c.args.out.now) (g.W.Out.state c.write_found.new.out) t c.write_found.result)
          (λ i. picture_text (picture_of c.args.layout.now c.args.text.now c.args.only.now (drawing_is c.args.drawing.now) (found i)))
          c.write_found.ensures.written;
    }
