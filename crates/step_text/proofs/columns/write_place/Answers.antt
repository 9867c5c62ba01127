use Rattle.std.proofs.Common.{refl}
use Rattle.text_out.proofs.Progress.{breaks_off, closes, goes_on, starts}
use Rattle.step_text.specs.Columns.{column_text, line_text}
use Rattle.step_text.proofs.columns.write_place.Goals as goal

pub returns-in_err-write_line_number : goal.returns-in_err-write_line_number
returns-in_err-write_line_number g c = record {
  written = breaks_off _ _ _ _ _ (line_text c.args.location.line) (column_text c.args.detail.now.columns c.args.location.offset)
      c.from_residual.result _ c.from_residual.ensures.1 (starts _ _) refl c.in_err-write_line_number.ensures.written;
}

pub returns : goal.returns
returns g c =
    let line = goes_on _ _ _ _ _ (line_text c.args.location.line) (column_text c.args.detail.now.columns c.args.location.offset)
    (starts _ _) refl c.in_ok-write_line_number.ensures.written in
    record { written = closes _ _ _ _ _ c.write_column.result line c.write_column.ensures.written }
