use Rattle.std.proofs.Common.{◌++◌, ℤ, List, ap, codes, refl, sym}
use Rattle.text_out.proofs.Progress.{breaks_off, closes, goes_on, starts}
use Rattle.program_texts.specs.Shown.{spaced}
use Rattle.comparing.specs.ComparisonText.{difference_text}
use Rattle.comparing.proofs.comparison_text.write_found.Goals as goal

pub returns-in_err-write_all : goal.returns-in_err-write_all
returns-in_err-write_all g c =
    let values = spaced c.args.found.now.input.items in
    let difference = difference_text c.args.first.now c.args.second.now c.args.found.now.difference in
    let behind = codes ": " ++ (difference ++ codes "\n") in
    record {
      written = breaks_off _ _ _ _ _ (codes "input") (values ++ behind)
          c.from_residual.result _ c.from_residual.ensures.1 (starts _ _) refl c.in_err-write_all.ensures.written;
    }

pub returns-in_err-write_values : goal.returns-in_err-write_values
returns-in_err-write_values g c =
    let values = spaced c.args.found.now.input.items in
    let difference = difference_text c.args.first.now c.args.second.now c.args.found.now.difference in
    let behind = codes ": " ++ (difference ++ codes "\n") in
    let after_1 = goes_on _ _ _ _ _ (codes "input") (values ++ behind) (starts _ _) refl
    c.in_ok-write_all.ensures.written in
    record {
      written = breaks_off _ _ _ _ _ (spaced c.as_slice.result.now) behind
          c.from_residual-in_err-write_values.result _ c.from_residual-in_err-write_values.ensures.1 after_1
          (ap (λ (vs : List ℤ). spaced vs ++ behind) (sym c.as_slice.ensures.value)) c.in_err-write_values.ensures.written;
    }

pub returns-in_err-write_all-2 : goal.returns-in_err-write_all-2
returns-in_err-write_all-2 g c =
    let values = spaced c.args.found.now.input.items in
    let difference = difference_text c.args.first.now c.args.second.now c.args.found.now.difference in
    let behind = codes ": " ++ (difference ++ codes "\n") in
    let after_1 = goes_on _ _ _ _ _ (codes "input") (values ++ behind) (starts _ _) refl
    c.in_ok-write_all.ensures.written in
    let after_2 = goes_on _ _ _ _ _ (spaced c.as_slice.result.now) behind after_1
    (ap (λ (vs : List ℤ). spaced vs ++ behind) (sym c.as_slice.ensures.value))
    c.in_ok-write_values.ensures.written in
    record {
      written = breaks_off _ _ _ _ _ (codes ": ") (difference ++ codes "\n")
          c.from_residual-in_err-write_all-2.result _ c.from_residual-in_err-write_all-2.ensures.1 after_2 refl
          c.in_err-write_all-2.ensures.written;
    }

pub returns-in_err-write_difference : goal.returns-in_err-write_difference
returns-in_err-write_difference g c =
    let values = spaced c.args.found.now.input.items in
    let difference = difference_text c.args.first.now c.args.second.now c.args.found.now.difference in
    let behind = codes ": " ++ (difference ++ codes "\n") in
    let after_1 = goes_on _ _ _ _ _ (codes "input") (values ++ behind) (starts _ _) refl
    c.in_ok-write_all.ensures.written in
    let after_2 = goes_on _ _ _ _ _ (spaced c.as_slice.result.now) behind after_1
    (ap (λ (vs : List ℤ). spaced vs ++ behind) (sym c.as_slice.ensures.value))
    c.in_ok-write_values.ensures.written in
    let after_3 = goes_on _ _ _ _ _ (codes ": ") (difference ++ codes "\n") after_2 refl
    c.in_ok-write_all-2.ensures.written in
    record {
      written = breaks_off _ _ _ _ _ difference (codes "\n")
          c.from_residual-in_err-write_difference.result _ c.from_residual-in_err-write_difference.ensures.1 after_3 refl
          c.in_err-write_difference.ensures.written;
    }

pub returns : goal.returns
returns g c =
    let values = spaced c.args.found.now.input.items in
    let difference = difference_text c.args.first.now c.args.second.now c.args.found.now.difference in
    let behind = codes ": " ++ (difference ++ codes "\n") in
    let after_1 = goes_on _ _ _ _ _ (codes "input") (values ++ behind) (starts _ _) refl
    c.in_ok-write_all.ensures.written in
    let after_2 = goes_on _ _ _ _ _ (spaced c.as_slice.result.now) behind after_1
    (ap (λ (vs : List ℤ). spaced vs ++ behind) (sym c.as_slice.ensures.value))
    c.in_ok-write_values.ensures.written in
    let after_3 = goes_on _ _ _ _ _ (codes ": ") (difference ++ codes "\n") after_2 refl
    c.in_ok-write_all-2.ensures.written in
    let after_4 = goes_on _ _ _ _ _ difference (codes "\n") after_3 refl
    c.in_ok-write_difference.ensures.written in
    record { written = closes _ _ _ _ _ c.write_all-3.result after_4 c.write_all-3.ensures.written }
