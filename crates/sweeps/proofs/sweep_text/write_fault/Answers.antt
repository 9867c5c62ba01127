use Rattle.std.proofs.Common.{refl}
use Rattle.text_out.proofs.Progress.{breaks_off, closes, goes_on, starts}
use Rattle.sweeps.specs.SweepText.{counts_text, refusal_text}
use Rattle.sweeps.proofs.sweep_text.write_fault.Goals as goal

pub returns-in_err-write_counts : goal.returns-in_err-write_counts
returns-in_err-write_counts g c =
    let front = counts_text c.args.counts.now in
    let rest = refusal_text c.args.fault.now in
    record {
      written = breaks_off _ _ _ _ _ front rest c.from_residual.result _ c.from_residual.ensures.1 (starts _ _) refl
          c.in_err-write_counts.ensures.written;
    }

pub returns : goal.returns
returns g c =
    let front = counts_text c.args.counts.now in
    let rest = refusal_text c.args.fault.now in
    record {
      written = closes _ _ _ _ _ c.write_refusal.result
          (goes_on _ _ _ _ _ front rest (starts _ _) refl c.in_ok-write_counts.ensures.written)
          c.write_refusal.ensures.written;
    }
