use Rattle.std.proofs.Common.{List, ap, subst, ℕ, ◌∙◌}
use Rattle.text_out.specs.Out.{Writes}
use Rattle.svg_texts.specs.Shapes.{picture_front}
use Rattle.pictures.specs.Steps.Measures.{frame_is, picture_height, picture_width}
use Rattle.pictures.specs.Steps.Picture.{title}
use Rattle.pictures.proofs.steps.picture.write_front.Goals as goal

pub returns : goal.returns
returns g c =
    let columns = c.count_drawn-columns.ensures.count in
    let wide = c.picture_width.ensures ∙ ap picture_width columns in
    let tall = c.picture_height.ensures ∙ ap (picture_height (frame_is c.args.frame.now)) columns in
    record {
      written = subst (λ (t : List ℕ). Writes (g.W.Out.state c.args.out.now) (g.W.Out.state c.open_picture.new.out) t
          c.open_picture.result)
          (λ i. picture_front title (wide i) (tall i)) c.open_picture.ensures.written;
    }
