use Rattle.std.proofs.Common.{codes, refl, sym, ◌++◌}
use Rattle.svg_texts.specs.Shapes.{picture_front, shape_text}
use Rattle.pictures.specs.Steps.Measures.{count_drawn, frame_is, picture_height, picture_width}
use Rattle.pictures.specs.Steps.Picture.{drawing, title}
use Rattle.text_out.proofs.Progress.{breaks_off, closes, goes_on, starts}
use Rattle.pictures.proofs.steps.picture.write_framed.Goals as goal

pub returns-in_err-write_front : goal.returns-in_err-write_front
returns-in_err-write_front g c = record {
  written = λ es h.
      let f = frame_is c.args.frame.now in
      let n = count_drawn c.args.kept.now.count in
      let part2 = shape_text (drawing f es) in
      let part3 = codes "</svg>\n" in
      breaks_off _ _ _ _ _ (picture_front title (picture_width n) (picture_height f n)) (part2 ++ part3) c.from_residual.result _
      c.from_residual.ensures.1 (starts _ _)
      (λ i. picture_front title (picture_width (count_drawn (sym h.counted i))) (picture_height f (count_drawn (sym h.counted i)))
      ++ (part2 ++ part3)) c.in_err-write_front.ensures.written;
}

pub returns-in_err-write_drawing : goal.returns-in_err-write_drawing
returns-in_err-write_drawing g c = record {
  written = λ es h.
      let f = frame_is c.args.frame.now in
      let n = count_drawn c.args.kept.now.count in
      let part2 = shape_text (drawing f es) in
      let part3 = codes "</svg>\n" in
      let after1 = goes_on _ _ _ _ _ (picture_front title (picture_width n) (picture_height f n)) (part2 ++ part3) (starts _ _)
      (λ i. picture_front title (picture_width (count_drawn (sym h.counted i))) (picture_height f (count_drawn (sym h.counted i)))
      ++ (part2 ++ part3)) c.in_ok-write_front.ensures.written in
      breaks_off _ _ _ _ _ part2 part3 c.from_residual-in_err-write_drawing.result _ c.from_residual-in_err-write_drawing.ensures.1
      after1 refl (c.in_err-write_drawing.ensures.written es h);
}

pub returns : goal.returns
returns g c = record {
  written = λ es h.
      let f = frame_is c.args.frame.now in
      let n = count_drawn c.args.kept.now.count in
      let part2 = shape_text (drawing f es) in
      let part3 = codes "</svg>\n" in
      let after1 = goes_on _ _ _ _ _ (picture_front title (picture_width n) (picture_height f n)) (part2 ++ part3) (starts _ _)
      (λ i. picture_front title (picture_width (count_drawn (sym h.counted i))) (picture_height f (count_drawn (sym h.counted i)))
      ++ (part2 ++ part3)) c.in_ok-write_front.ensures.written in
      let after2 = goes_on _ _ _ _ _ part2 part3 after1 refl (c.in_ok-write_drawing.ensures.written es h) in
      closes _ _ _ _ _ c.close_picture.result after2 c.close_picture.ensures.written;
}
