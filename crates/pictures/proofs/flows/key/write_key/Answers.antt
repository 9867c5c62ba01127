use Rattle.std.proofs.Common.{refl, ◌++◌}
use Rattle.svg_texts.specs.Shapes.{shape_text}
use Rattle.pictures.specs.Flows.Picture.{box_key, last_key, read_key}
use Rattle.text_out.proofs.Progress.{breaks_off, closes, goes_on, starts}
use Rattle.pictures.proofs.flows.key.write_key.Goals as goal

pub returns-in_err-write_box_key : goal.returns-in_err-write_box_key
returns-in_err-write_box_key g c =
    let part1 = shape_text box_key in
    let part2 = shape_text read_key in
    let part3 = shape_text last_key in
    record {
      written = breaks_off _ _ _ _ _ part1 (part2 ++ part3) c.from_residual.result _ c.from_residual.ensures.1 (starts _ _) refl
          c.in_err-write_box_key.ensures.written;
    }

pub returns-in_err-write_read_key : goal.returns-in_err-write_read_key
returns-in_err-write_read_key g c =
    let part1 = shape_text box_key in
    let part2 = shape_text read_key in
    let part3 = shape_text last_key in
    let after1 = goes_on _ _ _ _ _ part1 (part2 ++ part3) (starts _ _) refl c.in_ok-write_box_key.ensures.written in
    record {
      written = breaks_off _ _ _ _ _ part2 part3 c.from_residual-in_err-write_read_key.result _
          c.from_residual-in_err-write_read_key.ensures.1 after1 refl c.in_err-write_read_key.ensures.written;
    }

pub returns : goal.returns
returns g c =
    let part1 = shape_text box_key in
    let part2 = shape_text read_key in
    let part3 = shape_text last_key in
    let after1 = goes_on _ _ _ _ _ part1 (part2 ++ part3) (starts _ _) refl c.in_ok-write_box_key.ensures.written in
    let after2 = goes_on _ _ _ _ _ part2 part3 after1 refl c.in_ok-write_read_key.ensures.written in
    record {
      written = closes _ _ _ _ _ c.write_last_key.result after2 c.write_last_key.ensures.written;
    }
