use Rattle.std.proofs.Common.{refl}
use Rattle.text_out.proofs.Progress.{breaks_off, closes, goes_on, starts}
use Rattle.text_out.specs.Out.{joined}
use Rattle.sweeps.specs.GrowthText.{factor_text}
use Rattle.sweeps.proofs.growth_text.write_times.Goals as goal

pub returns-in_err-write_factor : goal.returns-in_err-write_factor
returns-in_err-write_factor g c =
    let front = factor_text c.args.size in
    let rest = joined c.args.symbol.now in
    record {
      written = breaks_off _ _ _ _ _ front rest c.from_residual.result _ c.from_residual.ensures.1 (starts _ _) refl
          c.in_err-write_factor.ensures.written;
    }

pub returns : goal.returns
returns g c =
    let front = factor_text c.args.size in
    let rest = joined c.args.symbol.now in
    record {
      written = closes _ _ _ _ _ c.write_parts.result
          (goes_on _ _ _ _ _ front rest (starts _ _) refl c.in_ok-write_factor.ensures.written)
          c.write_parts.ensures.written;
    }
