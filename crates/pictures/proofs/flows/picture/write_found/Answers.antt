use Rattle.std.proofs.Common.{refl, ◌++◌}
use Rattle.std.specs.Prelude.{codes}
use Rattle.std.specs.Prelude.{take}
use Rattle.svg_texts.specs.Shapes.{shape_text}
use Rattle.pictures.specs.Flows.Drawing.{drawing_is}
use Rattle.pictures.specs.Flows.Picture.{counts, drawn_shape, front}
use Rattle.text_out.proofs.Progress.{breaks_off, closes, goes_on, starts}
use Rattle.pictures.proofs.flows.picture.write_found.Goals as goal

pub returns-in_err-write_front : goal.returns-in_err-write_front
returns-in_err-write_front g c =
    let part1 = front (drawing_is c.args.drawing.now) c.args.found.now in
    let part2 = shape_text (counts c.args.layout.now c.args.only.now (drawing_is c.args.drawing.now) c.args.found.now) ++ shape_text
    (drawn_shape c.args.layout.now c.args.text.now (drawing_is c.args.drawing.now) (take 64 c.args.found.now)) in
    let part3 = codes "</svg>\n" in
    record {
      written = breaks_off _ _ _ _ _ part1 (part2 ++ part3) c.from_residual.result _ c.from_residual.ensures.1 (starts _ _) refl
          c.in_err-write_front.ensures.written;
    }

pub returns-in_err-write_shape : goal.returns-in_err-write_shape
returns-in_err-write_shape g c =
    let part1 = front (drawing_is c.args.drawing.now) c.args.found.now in
    let part2 = shape_text (counts c.args.layout.now c.args.only.now (drawing_is c.args.drawing.now) c.args.found.now) ++ shape_text
    (drawn_shape c.args.layout.now c.args.text.now (drawing_is c.args.drawing.now) (take 64 c.args.found.now)) in
    let part3 = codes "</svg>\n" in
    let after1 = goes_on _ _ _ _ _ part1 (part2 ++ part3) (starts _ _) refl c.in_ok-write_front.ensures.written in
    record {
      written = breaks_off _ _ _ _ _ part2 part3 c.from_residual-in_err-write_shape.result _ c.from_residual-in_err-write_shape.ensures.1
          after1 refl c.in_err-write_shape.ensures.written;
    }

pub returns : goal.returns
returns g c =
    let part1 = front (drawing_is c.args.drawing.now) c.args.found.now in
    let part2 = shape_text (counts c.args.layout.now c.args.only.now (drawing_is c.args.drawing.now) c.args.found.now) ++ shape_text
    (drawn_shape c.args.layout.now c.args.text.now (drawing_is c.args.drawing.now) (take 64 c.args.found.now)) in
    let part3 = codes "</svg>\n" in
    let after1 = goes_on _ _ _ _ _ part1 (part2 ++ part3) (starts _ _) refl c.in_ok-write_front.ensures.written in
    let after2 = goes_on _ _ _ _ _ part2 part3 after1 refl c.in_ok-write_shape.ensures.written in
    record {
      written = closes _ _ _ _ _ c.close_picture.result after2 c.close_picture.ensures.written;
    }
