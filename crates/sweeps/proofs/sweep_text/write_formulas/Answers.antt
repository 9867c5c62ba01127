use Rattle.std.proofs.Common.{refl}
use Rattle.std.specs.Prelude.{codes}
use Rattle.text_out.proofs.Progress.{breaks_off, closes, goes_on, starts}
use Rattle.sweeps.specs.GrowthText.{growth_text}
use Rattle.sweeps.proofs.sweep_text.write_formulas.Goals as goal

pub returns-in_err-write_growth : goal.returns-in_err-write_growth
returns-in_err-write_growth g c =
    let front = growth_text (codes "time") c.args.name.now c.args.growths.now.time in
    let rest = growth_text (codes "work") c.args.name.now c.args.growths.now.work in
    record {
      written = breaks_off _ _ _ _ _ front rest c.from_residual.result _ c.from_residual.ensures.1 (starts _ _) refl
          c.in_err-write_growth.ensures.written;
    }

pub returns : goal.returns
returns g c =
    let front = growth_text (codes "time") c.args.name.now c.args.growths.now.time in
    let rest = growth_text (codes "work") c.args.name.now c.args.growths.now.work in
    record {
      written = closes _ _ _ _ _ c.write_growth-2.result
          (goes_on _ _ _ _ _ front rest (starts _ _) refl c.in_ok-write_growth.ensures.written)
          c.write_growth-2.ensures.written;
    }
