use Rattle.std.proofs.Common.{◌++◌, codes, refl}
use Rattle.text_out.proofs.Progress.{breaks_off, closes, goes_on, starts}
use Rattle.comparing.specs.WhoseText.{value_in}
use Rattle.comparing.proofs.whose_text.write_values_in.Goals as goal

pub returns-in_err-write_value_in : goal.returns-in_err-write_value_in
returns-in_err-write_value_in g c =
    let one = value_in c.args.second c.args.second_name.now in
    let two = codes ", " in
    let three = value_in c.args.first c.args.first_name.now in
    record {
      written = breaks_off _ _ _ _ _ one (two ++ three)
          c.from_residual.result _ c.from_residual.ensures.1 (starts _ _) refl c.in_err-write_value_in.ensures.written;
    }

pub returns-in_err-write_all : goal.returns-in_err-write_all
returns-in_err-write_all g c =
    let one = value_in c.args.second c.args.second_name.now in
    let two = codes ", " in
    let three = value_in c.args.first c.args.first_name.now in
    let after_1 = goes_on _ _ _ _ _ one (two ++ three) (starts _ _) refl c.in_ok-write_value_in.ensures.written in
    record {
      written = breaks_off _ _ _ _ _ two three
          c.from_residual-in_err-write_all.result _ c.from_residual-in_err-write_all.ensures.1 after_1 refl c.in_err-write_all.ensures.written;
    }

pub returns : goal.returns
returns g c =
    let one = value_in c.args.second c.args.second_name.now in
    let two = codes ", " in
    let three = value_in c.args.first c.args.first_name.now in
    let after_1 = goes_on _ _ _ _ _ one (two ++ three) (starts _ _) refl c.in_ok-write_value_in.ensures.written in
    let after_2 = goes_on _ _ _ _ _ two three after_1 refl c.in_ok-write_all.ensures.written in
    record { written = closes _ _ _ _ _ c.write_value_in-2.result after_2 c.write_value_in-2.ensures.written }
