use Rattle.std.proofs.Common.{refl}
use Rattle.std.specs.Prelude.{codes}
use Rattle.text_out.proofs.Progress.{breaks_off, closes, goes_on, starts}
use Rattle.sweeps.specs.CsvText.{field_text}
use Rattle.sweeps.proofs.csv_field.write_next_field.Goals as goal

pub returns-in_err-write_all : goal.returns-in_err-write_all
returns-in_err-write_all g c =
    let front = codes "," in
    let rest = field_text c.args.field.now in
    record {
      written = breaks_off _ _ _ _ _ front rest c.from_residual.result _ c.from_residual.ensures.1 (starts _ _) refl
          c.in_err-write_all.ensures.written;
    }

pub returns : goal.returns
returns g c =
    let front = codes "," in
    let rest = field_text c.args.field.now in
    record {
      written = closes _ _ _ _ _ c.write_field.result
          (goes_on _ _ _ _ _ front rest (starts _ _) refl c.in_ok-write_all.ensures.written)
          c.write_field.ensures.written;
    }
