use Rattle.std.proofs.Common.{refl}
use Rattle.std.specs.Prelude.{◌∷◌, map}
use Rattle.text_out.proofs.Progress.{breaks_off, closes, goes_on, starts}
use Rattle.sweeps.specs.CsvText.{column_names, record_text, records_text, row_fields}
use Rattle.sweeps.proofs.csv_text.write_sweep_csv.Goals as goal

pub returns-in_err-write_names : goal.returns-in_err-write_names
returns-in_err-write_names g c =
    let front = record_text (c.args.name.now ∷ column_names) in
    let rest = records_text (map row_fields c.args.rows.now) in
    record {
      written = breaks_off _ _ _ _ _ front rest c.from_residual.result _ c.from_residual.ensures.1 (starts _ _) refl
          c.in_err-write_names.ensures.written;
    }

pub returns : goal.returns
returns g c =
    let front = record_text (c.args.name.now ∷ column_names) in
    let rest = records_text (map row_fields c.args.rows.now) in
    record {
      written = closes _ _ _ _ _ c.write_rows.result
          (goes_on _ _ _ _ _ front rest (starts _ _) refl c.in_ok-write_names.ensures.written)
          c.write_rows.ensures.written;
    }
