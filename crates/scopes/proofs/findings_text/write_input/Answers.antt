use Rattle.std.proofs.Common.{◌++◌, codes, refl}
use Rattle.text_out.proofs.Progress.{breaks_off, closes, goes_on, starts}
use Rattle.program_texts.specs.Shown.{spaced}
use Rattle.scopes.proofs.findings_text.write_input.Goals as goal

pub returns-in_err-write_all : goal.returns-in_err-write_all
returns-in_err-write_all g c =
    let words = c.args.words.now in
    let values = spaced c.args.input.now in
    let end = codes "\n" in
    record {
      written = breaks_off _ _ _ _ _ words (values ++ end) c.from_residual.result _ c.from_residual.ensures.1 (starts _ _) refl
          c.in_err-write_all.ensures.written;
    }

pub returns-in_err-write_values : goal.returns-in_err-write_values
returns-in_err-write_values g c =
    let words = c.args.words.now in
    let values = spaced c.args.input.now in
    let end = codes "\n" in
    let p1 = goes_on _ _ _ _ _ words (values ++ end) (starts _ _) refl c.in_ok-write_all.ensures.written in
    record {
      written = breaks_off _ _ _ _ _ values end c.from_residual-in_err-write_values.result _ c.from_residual-in_err-write_values.ensures.1
          p1 refl
          c.in_err-write_values.ensures.written;
    }

pub returns : goal.returns
returns g c =
    let words = c.args.words.now in
    let values = spaced c.args.input.now in
    let end = codes "\n" in
    let p1 = goes_on _ _ _ _ _ words (values ++ end) (starts _ _) refl c.in_ok-write_all.ensures.written in
    let p2 = goes_on _ _ _ _ _ values end p1 refl c.in_ok-write_values.ensures.written in
    record { written = closes _ _ _ _ _ c.write_all-2.result p2 c.write_all-2.ensures.written }
