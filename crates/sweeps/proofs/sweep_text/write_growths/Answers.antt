use Rattle.std.proofs.Common.{refl}
use Rattle.text_out.proofs.Progress.{breaks_off, closes, goes_on, starts}
use Rattle.sweeps.specs.SweepText.{formulas_text, heading_text}
use Rattle.sweeps.proofs.sweep_text.write_growths.Goals as goal

pub returns-in_err-write_heading : goal.returns-in_err-write_heading
returns-in_err-write_heading g c =
    let front = heading_text c.args.growths.now in
    let rest = formulas_text c.args.name.now c.args.growths.now in
    record {
      written = breaks_off _ _ _ _ _ front rest c.from_residual.result _ c.from_residual.ensures.1 (starts _ _) refl
          c.in_err-write_heading.ensures.written;
    }

pub returns : goal.returns
returns g c =
    let front = heading_text c.args.growths.now in
    let rest = formulas_text c.args.name.now c.args.growths.now in
    record {
      written = closes _ _ _ _ _ c.write_formulas.result
          (goes_on _ _ _ _ _ front rest (starts _ _) refl c.in_ok-write_heading.ensures.written)
          c.write_formulas.ensures.written;
    }
