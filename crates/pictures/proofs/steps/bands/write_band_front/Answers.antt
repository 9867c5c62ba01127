use Rattle.std.proofs.Common.{refl}
use Rattle.svg_texts.specs.Shapes.{shape_text}
use Rattle.pictures.specs.Steps.Bands.{labels_from, titles}
use Rattle.text_out.proofs.Progress.{breaks_off, closes, goes_on, starts}
use Rattle.pictures.proofs.steps.bands.write_band_front.Goals as goal

pub returns-in_err-write_titles : goal.returns-in_err-write_titles
returns-in_err-write_titles g c =
    let part1 = shape_text (titles c.args.top) in
    let part2 = shape_text (labels_from c.args.top 1 c.args.rows.now) in
    record {
      written = breaks_off _ _ _ _ _ part1 part2 c.from_residual.result _ c.from_residual.ensures.1 (starts _ _) refl
          c.in_err-write_titles.ensures.written;
    }

pub returns : goal.returns
returns g c =
    let part1 = shape_text (titles c.args.top) in
    let part2 = shape_text (labels_from c.args.top 1 c.args.rows.now) in
    let after1 = goes_on _ _ _ _ _ part1 part2 (starts _ _) refl c.in_ok-write_titles.ensures.written in
    record {
      written = closes _ _ _ _ _ c.write_labels.result after1 c.write_labels.ensures.written;
    }
