use Rattle.std.proofs.Common.{refl}
use Rattle.text_out.proofs.Progress.{breaks_off, closes, goes_on, starts}
use Rattle.comparing.specs.ComparisonText.{item_text, values_text}
use Rattle.comparing.proofs.difference_text.write_output.Goals as goal

pub returns-in_err-write_item : goal.returns-in_err-write_item
returns-in_err-write_item g c =
    let item = item_text c.args.item in
    let values = values_text c.args.first c.args.second in
    record {
      written = breaks_off _ _ _ _ _ item values c.from_residual.result _ c.from_residual.ensures.1
          (starts _ _) refl c.in_err-write_item.ensures.written;
    }

pub returns : goal.returns
returns g c =
    let item = item_text c.args.item in
    let values = values_text c.args.first c.args.second in
    let after = goes_on _ _ _ _ _ item values (starts _ _) refl c.in_ok-write_item.ensures.written in
    record { written = closes _ _ _ _ _ c.write_values.result after c.write_values.ensures.written }
