use Rattle.std.proofs.Common.{refl}
use Rattle.text_out.proofs.Progress.{breaks_off, closes, goes_on, starts}
use Rattle.comparing.specs.ComparisonText.{value_text}
use Rattle.comparing.specs.WhoseText.{place_text}
use Rattle.comparing.proofs.whose_text.write_value_in.Goals as goal

pub returns-in_err-write_value : goal.returns-in_err-write_value
returns-in_err-write_value g c =
    let one = value_text c.args.value in
    let two = place_text c.args.name.now in
    record {
      written = breaks_off _ _ _ _ _ one two
          c.from_residual.result _ c.from_residual.ensures.1 (starts _ _) refl c.in_err-write_value.ensures.written;
    }

pub returns : goal.returns
returns g c =
    let one = value_text c.args.value in
    let two = place_text c.args.name.now in
    let after_1 = goes_on _ _ _ _ _ one two (starts _ _) refl c.in_ok-write_value.ensures.written in
    record { written = closes _ _ _ _ _ c.write_place.result after_1 c.write_place.ensures.written }
