use Rattle.std.proofs.Common.{List, ℕ, subst, sym}
use Rattle.text_out.specs.Out.{Writes}
use Rattle.sweeps.specs.declared.size_row.SizeRow.{SizeRow}
use Rattle.svg_texts.specs.Shapes.{picture_text}
use Rattle.pictures.specs.Sizes.Picture.{picture}
use Rattle.command_requests.specs.declared.sweep_words.SweepForm.{SweepForm}
use Rattle.command_text.specs.Texts.{swept_text}
use Rattle.command_text.proofs.sweeping.write_rows.Goals as goal

pub returns-in-Picture : goal.returns-in-Picture
returns-in-Picture g c =
    let s = c.args.swept.now in
    let old = g.O.Out.state c.args.out.now in
    let new = g.O.Out.state c.write_sweep_picture.new.out in
    let r = c.write_sweep_picture.result in
    let named = subst (λ (name : List ℕ). Writes old new (picture_text (picture name c.deref-in-Picture.result.now)) r)
    c.as_slice-name.ensures c.write_sweep_picture.ensures.written in
    let drawn = subst (λ (rows : List SizeRow). Writes old new (picture_text (picture s.sweep.name rows)) r)
    c.deref-in-Picture.ensures.value named in
    record {
      written = subst (λ (f : SweepForm). Writes old new (swept_text f s) r) (sym c.in-Picture.is) drawn;
    }
