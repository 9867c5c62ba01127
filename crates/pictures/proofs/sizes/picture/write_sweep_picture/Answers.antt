use Rattle.std.proofs.Common.{List, length, subst}
use Rattle.text_out.specs.Out.{Writes}
use Rattle.sweeps.specs.declared.size_row.SizeRow.{SizeRow}
use Rattle.svg_texts.specs.Shapes.{picture_text}
use Rattle.pictures.specs.Sizes.Picture.{picture_of}
use Rattle.pictures.proofs.sizes.picture.write_sweep_picture.Goals as goal

pub returns : goal.returns
returns g c = record {
  written = subst
      (λ (rows : List SizeRow). Writes (g.W.Out.state c.args.out.now) (g.W.Out.state c.write_drawn.new.out)
      (picture_text (picture_of c.args.name.now (length c.args.rows.now) rows)) c.write_drawn.result)
      c.drawn.ensures c.write_drawn.ensures.written;
}
