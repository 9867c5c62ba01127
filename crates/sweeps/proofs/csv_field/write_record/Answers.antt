use Rattle.std.proofs.Common.{refl}
use Rattle.std.specs.Prelude.{map}
use Rattle.text_out.proofs.Progress.{breaks_off, closes, goes_on, starts}
use Rattle.sweeps.specs.CsvText.{field_text, next_fields}
use Rattle.sweeps.proofs.csv_field.write_record.Goals as goal

pub returns-in_err-write_field : goal.returns-in_err-write_field
returns-in_err-write_field g c =
    let front = field_text c.args.first.now in
    let rest = next_fields (map (λ f. f.now) c.args.more.now) in
    record {
      written = breaks_off _ _ _ _ _ front rest c.from_residual.result _ c.from_residual.ensures.1 (starts _ _) refl
          c.in_err-write_field.ensures.written;
    }

pub returns : goal.returns
returns g c =
    let front = field_text c.args.first.now in
    let rest = next_fields (map (λ f. f.now) c.args.more.now) in
    record {
      written = closes _ _ _ _ _ c.write_next_fields.result
          (goes_on _ _ _ _ _ front rest (starts _ _) refl c.in_ok-write_field.ensures.written)
          c.write_next_fields.ensures.written;
    }
