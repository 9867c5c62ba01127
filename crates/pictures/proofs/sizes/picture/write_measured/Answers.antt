use Rattle.std.proofs.Common.{subst}
use Rattle.text_out.specs.Out.{Writes}
use Rattle.svg_texts.specs.Shapes.{shape_text}
use Rattle.pictures.specs.declared.sizes.frame.Frame.{Frame}
use Rattle.pictures.specs.Sizes.Picture.{panel}
use Rattle.pictures.proofs.sizes.picture.write_measured.Goals as goal

pub returns : goal.returns
returns g c = record {
  written = subst
      (λ (f : Frame). Writes (g.W.Out.state c.args.out.now) (g.W.Out.state c.write_panel.new.out) (shape_text (panel c.args.name.now f
      c.args.rows.now))
      c.write_panel.result)
      c.frame_of.ensures c.write_panel.ensures.written;
}
