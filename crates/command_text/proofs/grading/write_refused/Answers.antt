use Rattle.std.proofs.Common.{codes, refl}
use Rattle.text_out.proofs.Progress.{breaks_off, closes, goes_on, starts}
use Rattle.diagnoses.specs.RefusedLines.{stop_line}
use Rattle.command_text.proofs.grading.write_refused.Goals as goal

pub returns-in_err-write_all : goal.returns-in_err-write_all
returns-in_err-write_all g c =
    let one = codes " fail " in
    let two = stop_line c.args.halted.now.stop c.args.halted.now.about in
    record {
      written = breaks_off _ _ _ _ _ one two
          c.from_residual.result _ c.from_residual.ensures.1 (starts _ _) refl c.in_err-write_all.ensures.written;
    }

pub returns : goal.returns
returns g c =
    let one = codes " fail " in
    let two = stop_line c.args.halted.now.stop c.args.halted.now.about in
    let after_1 = goes_on _ _ _ _ _ one two (starts _ _) refl c.in_ok-write_all.ensures.written in
    record { written = closes _ _ _ _ _ c.write_refused_line.result after_1 c.write_refused_line.ensures.written }
