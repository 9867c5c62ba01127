use Rattle.std.proofs.Common.{refl}
use Rattle.svg_texts.specs.Shapes.{shape_text}
use Rattle.pictures.specs.Flows.Picture.{line_key, ring_key}
use Rattle.text_out.proofs.Progress.{breaks_off, closes, goes_on, starts}
use Rattle.pictures.proofs.flows.key.write_read_key.Goals as goal

pub returns-in_err-write_line_key : goal.returns-in_err-write_line_key
returns-in_err-write_line_key g c =
    let part1 = shape_text line_key in
    let part2 = shape_text ring_key in
    record {
      written = breaks_off _ _ _ _ _ part1 part2 c.from_residual.result _ c.from_residual.ensures.1 (starts _ _) refl
          c.in_err-write_line_key.ensures.written;
    }

pub returns : goal.returns
returns g c =
    let part1 = shape_text line_key in
    let part2 = shape_text ring_key in
    let after1 = goes_on _ _ _ _ _ part1 part2 (starts _ _) refl c.in_ok-write_line_key.ensures.written in
    record {
      written = closes _ _ _ _ _ c.write_ring_key.result after1 c.write_ring_key.ensures.written;
    }
