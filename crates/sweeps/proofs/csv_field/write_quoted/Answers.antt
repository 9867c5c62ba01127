use Rattle.std.proofs.Common.{◌++◌, refl}
use Rattle.std.specs.Prelude.{codes}
use Rattle.text_out.proofs.Progress.{breaks_off, closes, goes_on, starts}
use Rattle.sweeps.specs.CsvText.{escaped}
use Rattle.sweeps.proofs.csv_field.write_quoted.Goals as goal

pub returns-in_err-write_all : goal.returns-in_err-write_all
returns-in_err-write_all g c =
    let text = escaped c.args.field.now in
    record {
      written = breaks_off _ _ _ _ _ (codes "\"") (text ++ codes "\"") c.from_residual.result _ c.from_residual.ensures.1
          (starts _ _) refl c.in_err-write_all.ensures.written;
    }

pub returns-in_err-write_escaped : goal.returns-in_err-write_escaped
returns-in_err-write_escaped g c =
    let text = escaped c.args.field.now in
    let opened = goes_on _ _ _ _ _ (codes "\"") (text ++ codes "\"") (starts _ _) refl
    c.in_ok-write_all.ensures.written in
    record {
      written = breaks_off _ _ _ _ _ text (codes "\"") c.from_residual-in_err-write_escaped.result _
          c.from_residual-in_err-write_escaped.ensures.1 opened refl c.in_err-write_escaped.ensures.written;
    }

pub returns : goal.returns
returns g c =
    let text = escaped c.args.field.now in
    let opened = goes_on _ _ _ _ _ (codes "\"") (text ++ codes "\"") (starts _ _) refl
    c.in_ok-write_all.ensures.written in
    let told = goes_on _ _ _ _ _ text (codes "\"") opened refl c.in_ok-write_escaped.ensures.written in
    record { written = closes _ _ _ _ _ c.write_all-2.result told c.write_all-2.ensures.written }
