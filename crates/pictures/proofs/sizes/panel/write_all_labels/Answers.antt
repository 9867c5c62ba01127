use Rattle.std.proofs.Common.{refl}
use Rattle.svg_texts.specs.Shapes.{shape_text}
use Rattle.pictures.specs.declared.sizes.labels.Kind.TheVariants.{Sizes, Numbers}
use Rattle.pictures.specs.Sizes.Labels.{labels}
use Rattle.text_out.proofs.Progress.{breaks_off, closes, goes_on, starts}
use Rattle.pictures.proofs.sizes.panel.write_all_labels.Goals as goal

pub returns-in_err-write_labels : goal.returns-in_err-write_labels
returns-in_err-write_labels g c =
    let part1 = shape_text (labels Sizes c.args.frame 0 c.args.rows.now) in
    let part2 = shape_text (labels Numbers c.args.frame 0 c.args.rows.now) in
    record {
      written = breaks_off _ _ _ _ _ part1 part2 c.from_residual.result _ c.from_residual.ensures.1 (starts _ _) refl
          c.in_err-write_labels.ensures.written;
    }

pub returns : goal.returns
returns g c =
    let part1 = shape_text (labels Sizes c.args.frame 0 c.args.rows.now) in
    let part2 = shape_text (labels Numbers c.args.frame 0 c.args.rows.now) in
    let after1 = goes_on _ _ _ _ _ part1 part2 (starts _ _) refl c.in_ok-write_labels.ensures.written in
    record {
      written = closes _ _ _ _ _ c.write_labels-2.result after1 c.write_labels-2.ensures.written;
    }
