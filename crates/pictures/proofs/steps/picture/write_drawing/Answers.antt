use Rattle.std.proofs.Common.{length, refl, sym, ◌++◌}
use Rattle.svg_texts.specs.Shapes.{shape_text}
use Rattle.pictures.specs.Steps.Measures.{frame_is}
use Rattle.pictures.specs.Steps.Picture.{foot, head, table}
use Rattle.text_out.proofs.Progress.{breaks_off, closes, goes_on, starts}
use Rattle.pictures.proofs.steps.picture.write_drawing.Goals as goal

pub returns-in_err-write_head : goal.returns-in_err-write_head
returns-in_err-write_head g c = record {
  written = λ es h.
      let f = c.args.frame.now in
      let part2 = shape_text (table (frame_is f) es) in
      let part3 = shape_text (foot (frame_is f) es) in
      breaks_off _ _ _ _ _ (shape_text (head f.part c.args.kept.now.count (length f.rows.now))) (part2 ++ part3) c.from_residual.result _
      c.from_residual.ensures.1 (starts _ _)
      (λ i. shape_text (head f.part (sym h.counted i) (length f.rows.now)) ++ (part2 ++ part3)) c.in_err-write_head.ensures.written;
}

pub returns-in_err-write_table : goal.returns-in_err-write_table
returns-in_err-write_table g c = record {
  written = λ es h.
      let f = c.args.frame.now in
      let part2 = shape_text (table (frame_is f) es) in
      let part3 = shape_text (foot (frame_is f) es) in
      let after1 = goes_on _ _ _ _ _ (shape_text (head f.part c.args.kept.now.count (length f.rows.now))) (part2 ++ part3) (starts _ _)
      (λ i. shape_text (head f.part (sym h.counted i) (length f.rows.now)) ++ (part2 ++ part3)) c.in_ok-write_head.ensures.written in
      breaks_off _ _ _ _ _ part2 part3 c.from_residual-in_err-write_table.result _ c.from_residual-in_err-write_table.ensures.1
      after1 refl (c.in_err-write_table.ensures.written es h);
}

pub returns : goal.returns
returns g c = record {
  written = λ es h.
      let f = c.args.frame.now in
      let part2 = shape_text (table (frame_is f) es) in
      let part3 = shape_text (foot (frame_is f) es) in
      let after1 = goes_on _ _ _ _ _ (shape_text (head f.part c.args.kept.now.count (length f.rows.now))) (part2 ++ part3) (starts _ _)
      (λ i. shape_text (head f.part (sym h.counted i) (length f.rows.now)) ++ (part2 ++ part3)) c.in_ok-write_head.ensures.written in
      let after2 = goes_on _ _ _ _ _ part2 part3 after1 refl (c.in_ok-write_table.ensures.written es h) in
      closes _ _ _ _ _ c.write_foot.result after2 (c.write_foot.ensures.written es h);
}
