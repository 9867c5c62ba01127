use Rattle.std.proofs.Common.{refl}
use Rattle.journal.specs.Entries.{act_is}
use Rattle.svg_texts.specs.Shapes.{shape_text}
use Rattle.pictures.specs.Steps.Marks.{ground, marks}
use Rattle.text_out.proofs.Progress.{breaks_off, closes, goes_on, starts}
use Rattle.pictures.proofs.steps.marks.write_marked.Goals as goal

pub returns-in_err-write_ground : goal.returns-in_err-write_ground
returns-in_err-write_ground g c =
    let part1 = shape_text (ground c.args.at.x c.args.at.y) in
    let part2 = shape_text (marks c.args.at.x c.args.at.y (act_is c.args.act.now)) in
    record {
      written = breaks_off _ _ _ _ _ part1 part2 c.from_residual.result _ c.from_residual.ensures.1 (starts _ _) refl
          c.in_err-write_ground.ensures.written;
    }

pub returns : goal.returns
returns g c =
    let part1 = shape_text (ground c.args.at.x c.args.at.y) in
    let part2 = shape_text (marks c.args.at.x c.args.at.y (act_is c.args.act.now)) in
    let after1 = goes_on _ _ _ _ _ part1 part2 (starts _ _) refl c.in_ok-write_ground.ensures.written in
    record {
      written = closes _ _ _ _ _ c.write_marks.result after1 c.write_marks.ensures.written;
    }
