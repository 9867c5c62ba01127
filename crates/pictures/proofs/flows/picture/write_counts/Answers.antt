use Rattle.std.proofs.Common.{◌∙◌, ℕ, List, length, subst, sym}
use Rattle.std.proofs.lemmas.List.{length-map}
use Rattle.text_out.specs.Out.{Writes}
use Rattle.svg_texts.specs.Shapes.{shape_text}
use Rattle.pictures.specs.Flows.Drawing.{column_is}
use Rattle.pictures.specs.Flows.Picture.{head}
use Rattle.pictures.proofs.flows.picture.write_counts.Goals as goal

pub returns : goal.returns
returns g c =
    let d = c.args.drawing.now in
    let columns = c.len.ensures ∙ d.columns.ok.0 ∙ sym (length-map d.columns.items column_is) in
    record {
      written = subst (λ (t : List ℕ). Writes (g.W.Out.state c.args.out.now) (g.W.Out.state c.write_head.new.out) t c.write_head.result)
          (λ i. shape_text (head c.args.layout.now c.args.only.now d.count d.from d.to (columns i) d.touching
          (length (c.drawn_rows.ensures i)) (length c.args.found.now))) c.write_head.ensures.written;
    }
