use Rattle.std.proofs.Common.{refl, ◌++◌}
use Rattle.std.specs.Prelude.{codes}
use Rattle.svg_texts.specs.Shapes.{Letters, picture_front, shape_text}
use Rattle.pictures.specs.Sizes.Picture.{shape_of, title}
use Rattle.text_out.proofs.Progress.{breaks_off, closes, goes_on, starts}
use Rattle.pictures.proofs.sizes.picture.write_drawn.Goals as goal

pub returns-in_err-open_picture : goal.returns-in_err-open_picture
returns-in_err-open_picture g c =
    let part1 = picture_front (Letters title) 760 500 in
    let part2 = shape_text (shape_of c.args.name.now c.args.count c.args.rows.now) in
    let part3 = codes "</svg>\n" in
    record {
      written = breaks_off _ _ _ _ _ part1 (part2 ++ part3) c.from_residual.result _ c.from_residual.ensures.1 (starts _ _) refl
          c.in_err-open_picture.ensures.written;
    }

pub returns-in_err-write_shape : goal.returns-in_err-write_shape
returns-in_err-write_shape g c =
    let part1 = picture_front (Letters title) 760 500 in
    let part2 = shape_text (shape_of c.args.name.now c.args.count c.args.rows.now) in
    let part3 = codes "</svg>\n" in
    let after1 = goes_on _ _ _ _ _ part1 (part2 ++ part3) (starts _ _) refl c.in_ok-open_picture.ensures.written in
    record {
      written = breaks_off _ _ _ _ _ part2 part3 c.from_residual-in_err-write_shape.result _ c.from_residual-in_err-write_shape.ensures.1
          after1 refl c.in_err-write_shape.ensures.written;
    }

pub returns : goal.returns
returns g c =
    let part1 = picture_front (Letters title) 760 500 in
    let part2 = shape_text (shape_of c.args.name.now c.args.count c.args.rows.now) in
    let part3 = codes "</svg>\n" in
    let after1 = goes_on _ _ _ _ _ part1 (part2 ++ part3) (starts _ _) refl c.in_ok-open_picture.ensures.written in
    let after2 = goes_on _ _ _ _ _ part2 part3 after1 refl c.in_ok-write_shape.ensures.written in
    record {
      written = closes _ _ _ _ _ c.close_picture.result after2 c.close_picture.ensures.written;
    }
