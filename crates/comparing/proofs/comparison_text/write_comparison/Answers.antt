use Rattle.std.proofs.Common.{◌++◌, ℕ, List, ap, map, refl, sym}
use Rattle.text_out.proofs.Progress.{breaks_off, closes, goes_on, starts}
use Rattle.comparing.specs.Found.{differing_is, found_is}
use Rattle.comparing.specs.declared.comparison.FoundDifference.{FoundDifference}
use Rattle.comparing.specs.ComparisonText.{cells_line, counts_line, first_line}
use Rattle.comparing.proofs.comparison_text.write_comparison.Goals as goal

pub returns-in_err-write_counts : goal.returns-in_err-write_counts
returns-in_err-write_counts g c =
    let f = found_is c.args.comparison.now in
    let first = first_line c.args.first.now c.args.second.now f.told in
    record {
      written = breaks_off _ _ _ _ _ (counts_line c.args.precondition.now f) (cells_line c.args.cells ++ first)
          c.from_residual.result _ c.from_residual.ensures.1 (starts _ _) refl c.in_err-write_counts.ensures.written;
    }

pub returns-in_err-write_cells : goal.returns-in_err-write_cells
returns-in_err-write_cells g c =
    let f = found_is c.args.comparison.now in
    let cells = cells_line c.args.cells in
    let first = first_line c.args.first.now c.args.second.now f.told in
    let after_1 = goes_on _ _ _ _ _ (counts_line c.args.precondition.now f) (cells ++ first)
    (starts _ _) refl c.in_ok-write_counts.ensures.written in
    record {
      written = breaks_off _ _ _ _ _ cells first c.from_residual-in_err-write_cells.result _
          c.from_residual-in_err-write_cells.ensures.1 after_1 refl c.in_err-write_cells.ensures.written;
    }

pub returns : goal.returns
returns g c =
    let f = found_is c.args.comparison.now in
    let cells = cells_line c.args.cells in
    let line : List FoundDifference → List ℕ = λ told. first_line c.args.first.now c.args.second.now (map differing_is told) in
    let after_1 = goes_on _ _ _ _ _ (counts_line c.args.precondition.now f) (cells ++ line c.args.comparison.now.told.items)
    (starts _ _) refl
    c.in_ok-write_counts.ensures.written in
    let after_2 = goes_on _ _ _ _ _ cells (line c.deref.result.now) after_1
    (ap (λ (told : List FoundDifference). cells ++ line told) (sym c.deref.ensures.value)) c.in_ok-write_cells.ensures.written in
    record { written = closes _ _ _ _ _ c.write_first.result after_2 c.write_first.ensures.written }
