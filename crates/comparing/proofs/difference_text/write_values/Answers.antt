use Rattle.std.proofs.Common.{◌++◌, codes, refl}
use Rattle.text_out.proofs.Progress.{breaks_off, closes, goes_on, starts}
use Rattle.comparing.specs.ComparisonText.{value_text}
use Rattle.comparing.proofs.difference_text.write_values.Goals as goal

pub returns-in_err-write_value : goal.returns-in_err-write_value
returns-in_err-write_value g c =
    let x = value_text c.args.first in
    let y = value_text c.args.second in
    record {
      written = breaks_off _ _ _ _ _ x (codes ", and " ++ y)
          c.from_residual.result _ c.from_residual.ensures.1 (starts _ _) refl c.in_err-write_value.ensures.written;
    }

pub returns-in_err-write_all : goal.returns-in_err-write_all
returns-in_err-write_all g c =
    let x = value_text c.args.first in
    let y = value_text c.args.second in
    let after_1 = goes_on _ _ _ _ _ x (codes ", and " ++ y) (starts _ _) refl
    c.in_ok-write_value.ensures.written in
    record {
      written = breaks_off _ _ _ _ _ (codes ", and ") y
          c.from_residual-in_err-write_all.result _ c.from_residual-in_err-write_all.ensures.1 after_1 refl
          c.in_err-write_all.ensures.written;
    }

pub returns : goal.returns
returns g c =
    let x = value_text c.args.first in
    let y = value_text c.args.second in
    let after_1 = goes_on _ _ _ _ _ x (codes ", and " ++ y) (starts _ _) refl
    c.in_ok-write_value.ensures.written in
    let after_2 = goes_on _ _ _ _ _ (codes ", and ") y after_1 refl
    c.in_ok-write_all.ensures.written in
    record { written = closes _ _ _ _ _ c.write_value-2.result after_2 c.write_value-2.ensures.written }
