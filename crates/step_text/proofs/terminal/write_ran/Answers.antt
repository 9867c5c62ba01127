use Rattle.text_out.proofs.Progress.{breaks_off, closes, goes_on, starts}
use Rattle.std.proofs.Common.{refl}
use Rattle.step_text.specs.OnTerminal.{coloured_changes}
use Rattle.step_text.proofs.terminal.write_ran.Goals as goal

pub returns-in_err-write_head : goal.returns-in_err-write_head
returns-in_err-write_head g c =
    record {
      written = breaks_off _ _ _ _ _ _ (coloured_changes c.args.layout.now c.args.colours c.args.changes.now) c.from_residual.result
          _ c.from_residual.ensures.1 (starts _ _) refl c.in_err-write_head.ensures.written;
    }

pub returns : goal.returns
returns g c =
    let after_1 = goes_on _ _ _ _ _ _ (coloured_changes c.args.layout.now c.args.colours c.args.changes.now) (starts _ _) refl
    c.in_ok-write_head.ensures.written in
    record { written = closes _ _ _ _ _ c.write_coloured.result after_1 c.write_coloured.ensures.written }
