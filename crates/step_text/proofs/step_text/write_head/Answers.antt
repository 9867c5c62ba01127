use Rattle.std.proofs.Common.{refl}
use Rattle.text_out.proofs.Progress.{breaks_off, closes, goes_on, starts}
use Rattle.step_text.specs.ChangeTexts.{count_text}
use Rattle.step_text.specs.Columns.{place_text}
use Rattle.step_text.proofs.step_text.write_head.Goals as goal

pub returns-in_err-write_place : goal.returns-in_err-write_place
returns-in_err-write_place g c = record {
  written = breaks_off _ _ _ _ _ (place_text c.args.detail.now.columns c.args.location) (count_text c.args.processors)
      c.from_residual.result _ c.from_residual.ensures.1 (starts _ _) refl c.in_err-write_place.ensures.written;
}

pub returns : goal.returns
returns g c =
    let place = goes_on _ _ _ _ _ (place_text c.args.detail.now.columns c.args.location) (count_text c.args.processors)
    (starts _ _) refl c.in_ok-write_place.ensures.written in
    record { written = closes _ _ _ _ _ c.write_count.result place c.write_count.ensures.written }
