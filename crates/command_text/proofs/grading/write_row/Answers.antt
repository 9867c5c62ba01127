use Rattle.std.proofs.Common.{refl}
use Rattle.text_out.proofs.Progress.{breaks_off, closes, goes_on, starts}
use Rattle.text_places.specs.Escaped.{escaped}
use Rattle.command_text.specs.Grades.{behind_text}
use Rattle.command_text.proofs.grading.write_row.Goals as goal

pub returns-in_err-write_name : goal.returns-in_err-write_name
returns-in_err-write_name g c =
    let one = escaped c.args.row.now.name.now in
    let two = behind_text c.args.first_name.now c.args.row.now.name.now c.args.row.now.graded in
    record {
      written = breaks_off _ _ _ _ _ one two
          c.from_residual.result _ c.from_residual.ensures.1 (starts _ _) refl c.in_err-write_name.ensures.written;
    }

pub returns : goal.returns
returns g c =
    let one = escaped c.args.row.now.name.now in
    let two = behind_text c.args.first_name.now c.args.row.now.name.now c.args.row.now.graded in
    let after_1 = goes_on _ _ _ _ _ one two (starts _ _) refl c.in_ok-write_name.ensures.written in
    record { written = closes _ _ _ _ _ c.write_behind.result after_1 c.write_behind.ensures.written }
