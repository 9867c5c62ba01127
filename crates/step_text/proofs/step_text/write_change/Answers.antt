use Rattle.std.proofs.Common.{◌++◌, codes, refl}
use Rattle.program_texts.specs.Shown.{cell_text}
use Rattle.text_out.proofs.Progress.{breaks_off, closes, goes_on, starts}
use Rattle.step_text.specs.ValueTexts.{value_text}
use Rattle.step_text.proofs.step_text.write_change.Goals as goal

pub returns-in_err-write_all : goal.returns-in_err-write_all
returns-in_err-write_all g c =
    let d = c.args.change.now in
    record {
      written = breaks_off _ _ _ _ _ (codes " ") (cell_text c.args.layout.now d.cell ++ value_text d) c.from_residual.result _
          c.from_residual.ensures.1 (starts _ _) refl c.in_err-write_all.ensures.written;
    }

pub returns-in_err-write_cell : goal.returns-in_err-write_cell
returns-in_err-write_cell g c =
    let d = c.args.change.now in
    let space = goes_on _ _ _ _ _ (codes " ") (cell_text c.args.layout.now d.cell ++ value_text d)
    (starts _ _) refl c.in_ok-write_all.ensures.written in
    record {
      written = breaks_off _ _ _ _ _ (cell_text c.args.layout.now d.cell) (value_text d)
          c.from_residual-in_err-write_cell.result _ c.from_residual-in_err-write_cell.ensures.1 space refl
          c.in_err-write_cell.ensures.written;
    }

pub returns : goal.returns
returns g c =
    let d = c.args.change.now in
    let space = goes_on _ _ _ _ _ (codes " ") (cell_text c.args.layout.now d.cell ++ value_text d)
    (starts _ _) refl c.in_ok-write_all.ensures.written in
    let cell = goes_on _ _ _ _ _ (cell_text c.args.layout.now d.cell) (value_text d) space refl c.in_ok-write_cell.ensures.written in
    record { written = closes _ _ _ _ _ c.write_value.result cell c.write_value.ensures.written }
