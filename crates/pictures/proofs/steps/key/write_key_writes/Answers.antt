use Rattle.std.proofs.Common.{refl}
use Rattle.std.specs.Prelude.{codes}
use Rattle.svg_texts.specs.Shapes.{shape_text}
use Rattle.pictures.specs.Steps.Marks.{write_mark}
use Rattle.pictures.specs.Steps.Paints.{note}
use Rattle.text_out.proofs.Progress.{breaks_off, closes, goes_on, starts}
use Rattle.pictures.proofs.steps.key.write_key_writes.Goals as goal

pub returns-in_err-write_write_mark : goal.returns-in_err-write_write_mark
returns-in_err-write_write_mark g c =
    let part1 = shape_text (write_mark 170 48) in
    let part2 = shape_text (note 234 61 (codes "writes")) in
    record {
      written = breaks_off _ _ _ _ _ part1 part2 c.from_residual.result _ c.from_residual.ensures.1 (starts _ _) refl
          c.in_err-write_write_mark.ensures.written;
    }

pub returns : goal.returns
returns g c =
    let part1 = shape_text (write_mark 170 48) in
    let part2 = shape_text (note 234 61 (codes "writes")) in
    let after1 = goes_on _ _ _ _ _ part1 part2 (starts _ _) refl c.in_ok-write_write_mark.ensures.written in
    record {
      written = closes _ _ _ _ _ c.write_note.result after1 c.write_note.ensures.written;
    }
