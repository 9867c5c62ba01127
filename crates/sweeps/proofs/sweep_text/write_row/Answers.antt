use Rattle.std.proofs.Common.{refl}
use Rattle.text_out.proofs.Progress.{breaks_off, closes, goes_on, starts}
use Rattle.sweeps.specs.SweepText.{ending_text, size_text}
use Rattle.sweeps.proofs.sweep_text.write_row.Goals as goal

pub returns-in_err-write_size : goal.returns-in_err-write_size
returns-in_err-write_size g c =
    let front = size_text c.args.name.now c.args.row.now.size in
    let rest = ending_text c.args.row.now.ending in
    record {
      written = breaks_off _ _ _ _ _ front rest c.from_residual.result _ c.from_residual.ensures.1 (starts _ _) refl
          c.in_err-write_size.ensures.written;
    }

pub returns : goal.returns
returns g c =
    let front = size_text c.args.name.now c.args.row.now.size in
    let rest = ending_text c.args.row.now.ending in
    record {
      written = closes _ _ _ _ _ c.write_ending.result
          (goes_on _ _ _ _ _ front rest (starts _ _) refl c.in_ok-write_size.ensures.written)
          c.write_ending.ensures.written;
    }
