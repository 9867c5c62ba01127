use Rattle.std.proofs.Common.{refl}
use Rattle.svg_texts.specs.Shapes.{shape_text}
use Rattle.pictures.specs.Steps.Picture.{key_met, key_more}
use Rattle.text_out.proofs.Progress.{breaks_off, closes, goes_on, starts}
use Rattle.pictures.proofs.steps.key.write_others.Goals as goal

pub returns-in_err-write_key_met : goal.returns-in_err-write_key_met
returns-in_err-write_key_met g c =
    let part1 = shape_text key_met in
    let part2 = shape_text key_more in
    record {
      written = breaks_off _ _ _ _ _ part1 part2 c.from_residual.result _ c.from_residual.ensures.1 (starts _ _) refl
          c.in_err-write_key_met.ensures.written;
    }

pub returns : goal.returns
returns g c =
    let part1 = shape_text key_met in
    let part2 = shape_text key_more in
    let after1 = goes_on _ _ _ _ _ part1 part2 (starts _ _) refl c.in_ok-write_key_met.ensures.written in
    record {
      written = closes _ _ _ _ _ c.write_key_more.result after1 c.write_key_more.ensures.written;
    }
