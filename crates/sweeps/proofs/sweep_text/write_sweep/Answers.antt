use Rattle.std.proofs.Common.{refl}
use Rattle.text_out.proofs.Progress.{breaks_off, closes, goes_on, starts}
use Rattle.sweeps.specs.SweepText.{growths_text, rows_text}
use Rattle.sweeps.proofs.sweep_text.write_sweep.Goals as goal

pub returns-in_err-write_rows : goal.returns-in_err-write_rows
returns-in_err-write_rows g c =
    let front = rows_text c.args.name.now c.args.rows.now in
    let rest = growths_text c.args.name.now c.args.growths.now in
    record {
      written = breaks_off _ _ _ _ _ front rest c.from_residual.result _ c.from_residual.ensures.1 (starts _ _) refl
          c.in_err-write_rows.ensures.written;
    }

pub returns : goal.returns
returns g c =
    let front = rows_text c.args.name.now c.args.rows.now in
    let rest = growths_text c.args.name.now c.args.growths.now in
    record {
      written = closes _ _ _ _ _ c.write_growths.result
          (goes_on _ _ _ _ _ front rest (starts _ _) refl c.in_ok-write_rows.ensures.written)
          c.write_growths.ensures.written;
    }
