use Rattle.std.proofs.Common.{refl}
use Rattle.std.proofs.Common.{◌+◌}
use Rattle.std.specs.Prelude.{codes}
use Rattle.svg_texts.specs.Shapes.{shape_text}
use Rattle.pictures.specs.Steps.Marks.{frame}
use Rattle.pictures.specs.Steps.Paints.{note}
use Rattle.text_out.proofs.Progress.{breaks_off, closes, goes_on, starts}
use Rattle.pictures.proofs.steps.marks.write_met_mark.Goals as goal

pub returns-in_err-write_frame : goal.returns-in_err-write_frame
returns-in_err-write_frame g c =
    let part1 = shape_text (frame c.args.at.x c.args.at.y) in
    let part2 = shape_text (note (c.args.at.x + 33) (c.args.at.y + 13) (codes "met")) in
    record {
      written = breaks_off _ _ _ _ _ part1 part2 c.from_residual.result _ c.from_residual.ensures.1 (starts _ _) refl
          c.in_err-write_frame.ensures.written;
    }

pub returns : goal.returns
returns g c =
    let part1 = shape_text (frame c.args.at.x c.args.at.y) in
    let part2 = shape_text (note (c.args.at.x + 33) (c.args.at.y + 13) (codes "met")) in
    let after1 = goes_on _ _ _ _ _ part1 part2 (starts _ _) refl c.in_ok-write_frame.ensures.written in
    record {
      written = closes _ _ _ _ _ c.write_note.result after1 c.write_note.ensures.written;
    }
