use Rattle.std.proofs.Common.{◌<◌, arith, codes, length}
use Rattle.std.proofs.lemmas.Grind.{common_steps}
use Rattle.program_texts.specs.Shown.{spaced}
use Rattle.text_out.proofs.Progress.{breaks_off, closes, goes_on, starts}
use Rattle.step_text.proofs.StepLines.{some_printed}
use Rattle.step_text.proofs.beside_cells.write_printed.Goals as goal

pub returns-in_err-write_all : goal.returns-in_err-write_all
returns-in_err-write_all g c =
    let some : 0 < length c.args.printed.now = grind (arith, common_steps) in
    record {
      written = breaks_off _ _ _ _ _ (codes " prints") (spaced c.args.printed.now) c.from_residual.result _
          c.from_residual.ensures.1 (starts _ _)
          (some_printed c.args.printed.now some) c.in_err-write_all.ensures.written;
    }

pub returns : goal.returns
returns g c =
    let some : 0 < length c.args.printed.now = grind (arith, common_steps) in
    let word = goes_on _ _ _ _ _ (codes " prints") (spaced c.args.printed.now) (starts _ _)
    (some_printed c.args.printed.now some) c.in_ok-write_all.ensures.written in
    record { written = closes _ _ _ _ _ c.write_values.result word c.write_values.ensures.written }
