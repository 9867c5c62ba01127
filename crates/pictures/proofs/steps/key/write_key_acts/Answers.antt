use Rattle.std.proofs.Common.{refl}
use Rattle.std.specs.Prelude.{codes}
use Rattle.svg_texts.specs.Shapes.{shape_text}
use Rattle.pictures.specs.Steps.Marks.{ground}
use Rattle.pictures.specs.Steps.Paints.{note}
use Rattle.text_out.proofs.Progress.{breaks_off, closes, goes_on, starts}
use Rattle.pictures.proofs.steps.key.write_key_acts.Goals as goal

pub returns-in_err-write_ground : goal.returns-in_err-write_ground
returns-in_err-write_ground g c =
    let part1 = shape_text (ground 12 48) in
    let part2 = shape_text (note 78 61 (codes "acts")) in
    record {
      written = breaks_off _ _ _ _ _ part1 part2 c.from_residual.result _ c.from_residual.ensures.1 (starts _ _) refl
          c.in_err-write_ground.ensures.written;
    }

pub returns : goal.returns
returns g c =
    let part1 = shape_text (ground 12 48) in
    let part2 = shape_text (note 78 61 (codes "acts")) in
    let after1 = goes_on _ _ _ _ _ part1 part2 (starts _ _) refl c.in_ok-write_ground.ensures.written in
    record {
      written = closes _ _ _ _ _ c.write_note.result after1 c.write_note.ensures.written;
    }
