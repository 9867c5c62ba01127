use Rattle.std.proofs.Common.{refl}
use Rattle.svg_texts.specs.Shapes.{shape_text}
use Rattle.tracer.specs.Picture.{head, key}
use Rattle.text_out.proofs.Progress.{breaks_off, closes, goes_on, starts}
use Rattle.tracer.proofs.picture.write_above.Goals as goal

pub returns-in_err-write_head : goal.returns-in_err-write_head
returns-in_err-write_head g c =
    let part1 = shape_text (head c.args.workers c.args.exchanges) in
    let part2 = shape_text key in
    record {
      written = breaks_off _ _ _ _ _ part1 part2 c.from_residual.result _ c.from_residual.ensures.1 (starts _ _) refl
          c.in_err-write_head.ensures.written;
    }

pub returns : goal.returns
returns g c =
    let part1 = shape_text (head c.args.workers c.args.exchanges) in
    let part2 = shape_text key in
    let after1 = goes_on _ _ _ _ _ part1 part2 (starts _ _) refl c.in_ok-write_head.ensures.written in
    record {
      written = closes _ _ _ _ _ c.write_key.result after1 c.write_key.ensures.written;
    }
