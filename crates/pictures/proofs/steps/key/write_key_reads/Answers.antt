use Rattle.std.proofs.Common.{refl}
use Rattle.std.specs.Prelude.{codes}
use Rattle.svg_texts.specs.Shapes.{shape_text}
use Rattle.pictures.specs.Steps.Marks.{read_mark}
use Rattle.pictures.specs.Steps.Paints.{note}
use Rattle.text_out.proofs.Progress.{breaks_off, closes, goes_on, starts}
use Rattle.pictures.proofs.steps.key.write_key_reads.Goals as goal

pub returns-in_err-write_read_mark : goal.returns-in_err-write_read_mark
returns-in_err-write_read_mark g c =
    let part1 = shape_text (read_mark 120 48) in
    let part2 = shape_text (note 154 61 (codes "reads")) in
    record {
      written = breaks_off _ _ _ _ _ part1 part2 c.from_residual.result _ c.from_residual.ensures.1 (starts _ _) refl
          c.in_err-write_read_mark.ensures.written;
    }

pub returns : goal.returns
returns g c =
    let part1 = shape_text (read_mark 120 48) in
    let part2 = shape_text (note 154 61 (codes "reads")) in
    let after1 = goes_on _ _ _ _ _ part1 part2 (starts _ _) refl c.in_ok-write_read_mark.ensures.written in
    record {
      written = closes _ _ _ _ _ c.write_note.result after1 c.write_note.ensures.written;
    }
