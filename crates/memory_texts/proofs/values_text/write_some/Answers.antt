use Rattle.std.proofs.Common.{◌++◌, codes, refl}
use Rattle.std.specs.Fmt.{signed_decimal}
use Rattle.text_out.proofs.Progress.{breaks_off, closes, goes_on, starts}
use Rattle.program_texts.specs.Shown.{spaced}
use Rattle.memory_texts.proofs.values_text.write_some.Goals as goal

pub returns-in_err-write_value : goal.returns-in_err-write_value
returns-in_err-write_value g c = record {
  written = breaks_off _ _ _ _ _ (signed_decimal c.args.first.now) (spaced c.args.rest.now ++ codes "\n") c.from_residual.result _
      c.from_residual.ensures.1 (starts _ _) refl c.in_err-write_value.ensures.written;
}

pub returns-in_err-write_values : goal.returns-in_err-write_values
returns-in_err-write_values g c =
    let first = goes_on _ _ _ _ _ (signed_decimal c.args.first.now) (spaced c.args.rest.now ++ codes "\n") (starts _ _) refl
    c.in_ok-write_value.ensures.written in
    record {
      written = breaks_off _ _ _ _ _ (spaced c.args.rest.now) (codes "\n") c.from_residual-in_err-write_values.result _
          c.from_residual-in_err-write_values.ensures.1 first refl c.in_err-write_values.ensures.written;
    }

pub returns : goal.returns
returns g c =
    let first = goes_on _ _ _ _ _ (signed_decimal c.args.first.now) (spaced c.args.rest.now ++ codes "\n") (starts _ _) refl
    c.in_ok-write_value.ensures.written in
    let all = goes_on _ _ _ _ _ (spaced c.args.rest.now) (codes "\n") first refl c.in_ok-write_values.ensures.written in
    record { written = closes _ _ _ _ _ c.write_all.result all c.write_all.ensures.written }
