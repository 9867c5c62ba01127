use Rattle.std.proofs.Common.{◌++◌, codes, refl}
use Rattle.text_out.proofs.Progress.{breaks_off, closes, goes_on, starts}
use Rattle.comparing.specs.ComparisonText.{ending_text}
use Rattle.comparing.proofs.difference_text.write_endings.Goals as goal

pub returns-in_err-write_ending : goal.returns-in_err-write_ending
returns-in_err-write_ending g c =
    let e = ending_text c.args.first_layout.now c.args.first in
    let f = ending_text c.args.second_layout.now c.args.second in
    record {
      written = breaks_off _ _ _ _ _ e (codes ", and " ++ f)
          c.from_residual.result _ c.from_residual.ensures.1 (starts _ _) refl c.in_err-write_ending.ensures.written;
    }

pub returns-in_err-write_all : goal.returns-in_err-write_all
returns-in_err-write_all g c =
    let e = ending_text c.args.first_layout.now c.args.first in
    let f = ending_text c.args.second_layout.now c.args.second in
    let after_1 = goes_on _ _ _ _ _ e (codes ", and " ++ f) (starts _ _) refl
    c.in_ok-write_ending.ensures.written in
    record {
      written = breaks_off _ _ _ _ _ (codes ", and ") f
          c.from_residual-in_err-write_all.result _ c.from_residual-in_err-write_all.ensures.1 after_1 refl
          c.in_err-write_all.ensures.written;
    }

pub returns : goal.returns
returns g c =
    let e = ending_text c.args.first_layout.now c.args.first in
    let f = ending_text c.args.second_layout.now c.args.second in
    let after_1 = goes_on _ _ _ _ _ e (codes ", and " ++ f) (starts _ _) refl
    c.in_ok-write_ending.ensures.written in
    let after_2 = goes_on _ _ _ _ _ (codes ", and ") f after_1 refl
    c.in_ok-write_all.ensures.written in
    record { written = closes _ _ _ _ _ c.write_ending-2.result after_2 c.write_ending-2.ensures.written }
