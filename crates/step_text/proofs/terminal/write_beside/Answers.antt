use Rattle.text_out.proofs.Progress.{breaks_off, closes, goes_on, starts}
use Rattle.std.proofs.Common.{refl}
use Rattle.text_places.specs.Excerpts.{shown_line}
use Rattle.step_text.proofs.terminal.write_beside.Goals as goal

pub returns-in_err-write_all : goal.returns-in_err-write_all
returns-in_err-write_all g c =
    record {
      written = breaks_off _ _ _ _ _ _ (shown_line c.args.text.now c.args.line) c.from_residual.result _ c.from_residual.ensures.1
          (starts _ _) refl c.in_err-write_all.ensures.written;
    }

pub returns : goal.returns
returns g c =
    let after_1 = goes_on _ _ _ _ _ _ (shown_line c.args.text.now c.args.line) (starts _ _) refl c.in_ok-write_all.ensures.written in
    record { written = closes _ _ _ _ _ c.write_line.result after_1 c.write_line.ensures.written }
