use Rattle.std.proofs.Common.{refl}
use Rattle.text_out.proofs.Progress.{breaks_off, closes, goes_on, starts}
use Rattle.comparing.specs.ComparisonText.{item_text}
use Rattle.comparing.specs.WhoseText.{values_in}
use Rattle.comparing.proofs.whose_text.write_output_in.Goals as goal

pub returns-in_err-write_item : goal.returns-in_err-write_item
returns-in_err-write_item g c =
    let one = item_text c.args.item in
    let two = values_in c.args.first_name.now c.args.second_name.now c.args.first c.args.second in
    record {
      written = breaks_off _ _ _ _ _ one two
          c.from_residual.result _ c.from_residual.ensures.1 (starts _ _) refl c.in_err-write_item.ensures.written;
    }

pub returns : goal.returns
returns g c =
    let one = item_text c.args.item in
    let two = values_in c.args.first_name.now c.args.second_name.now c.args.first c.args.second in
    let after_1 = goes_on _ _ _ _ _ one two (starts _ _) refl c.in_ok-write_item.ensures.written in
    record { written = closes _ _ _ _ _ c.write_values_in.result after_1 c.write_values_in.ensures.written }
