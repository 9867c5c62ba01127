use Rattle.std.proofs.Common.{◌∙◌, ℕ, List, ap, length, subst, sym}
use Rattle.std.proofs.lemmas.List.{length-map}
use Rattle.text_out.specs.Out.{Writes}
use Rattle.svg_texts.specs.Shapes.{picture_front}
use Rattle.pictures.specs.Flows.Drawing.{column_is}
use Rattle.pictures.specs.Flows.Picture.{title}
use Rattle.pictures.specs.Flows.Places.{picture_height, picture_width}
use Rattle.pictures.proofs.flows.picture.write_front.Goals as goal

pub returns : goal.returns
returns g c =
    let d = c.args.drawing.now in
    let columns = c.len.ensures ∙ d.columns.ok.0 ∙ sym (length-map d.columns.items column_is) in
    let wide = c.picture_width-wide.ensures ∙ ap picture_width columns in
    let tall = c.picture_height-tall.ensures ∙ ap (λ (rows : List ℕ). picture_height (length rows)) c.drawn_rows.ensures in
    record {
      written = subst (λ (t : List ℕ). Writes (g.W.Out.state c.args.out.now) (g.W.Out.state c.open_picture.new.out) t
          c.open_picture.result)
          (λ i. picture_front title (wide i) (tall i)) c.open_picture.ensures.written;
    }
