use Rattle.std.proofs.Common.{◌++◌, sym}
use Rattle.journal.specs.Entries.{act_is}
use Rattle.svg_texts.specs.Shapes.{shape_text}
use Rattle.pictures.specs.Steps.Marks.{read_part, write_part}
use Rattle.text_out.proofs.Progress.{breaks_off, closes, goes_on, starts}
use Rattle.pictures.proofs.steps.marks.write_marks.Goals as goal

pub returns-in_err-write_read_part : goal.returns-in_err-write_read_part
returns-in_err-write_read_part g c =
    let part1 = shape_text (read_part c.args.at.x c.args.at.y (act_is c.args.act.now).reads) in
    let part2 = shape_text (write_part c.args.at.x c.args.at.y c.args.act.now.write) in
    record {
      written = breaks_off _ _ _ _ _ (_) part2 c.from_residual.result _ c.from_residual.ensures.1 (starts _ _) (λ i. shape_text (read_part
          c.args.at.x c.args.at.y (sym c.deref.ensures.value i)) ++ part2) c.in_err-write_read_part.ensures.written;
    }

pub returns : goal.returns
returns g c =
    let part1 = shape_text (read_part c.args.at.x c.args.at.y (act_is c.args.act.now).reads) in
    let part2 = shape_text (write_part c.args.at.x c.args.at.y c.args.act.now.write) in
    let after1 = goes_on _ _ _ _ _ (_) part2 (starts _ _) (λ i. shape_text (read_part c.args.at.x c.args.at.y (sym c.deref.ensures.value
    i)) ++ part2) c.in_ok-write_read_part.ensures.written in
    record {
      written = closes _ _ _ _ _ c.write_write_part.result after1 c.write_write_part.ensures.written;
    }
