use Rattle.std.proofs.Common.{◌++◌, ℤ, List, ap, codes, refl, sym}
use Rattle.text_out.proofs.Progress.{breaks_off, closes, goes_on, starts}
use Rattle.program_texts.specs.Shown.{fault_text, spaced}
use Rattle.scopes.proofs.findings_text.write_met.Goals as goal

pub returns-in_err-write_fault_text : goal.returns-in_err-write_fault_text
returns-in_err-write_fault_text g c =
    let values = spaced c.args.found.now.input.items in
    record {
      written = breaks_off _ _ _ _ _ (fault_text c.args.layout.now c.args.found.now.fault) (codes " at input" ++ (values ++ codes "\n"))
          c.from_residual.result _ c.from_residual.ensures.1 (starts _ _) refl c.in_err-write_fault_text.ensures.written;
    }

pub returns-in_err-write_all : goal.returns-in_err-write_all
returns-in_err-write_all g c =
    let values = spaced c.args.found.now.input.items in
    let fault = goes_on _ _ _ _ _ (fault_text c.args.layout.now c.args.found.now.fault) (codes " at input" ++ (values ++ codes "\n"))
    (starts _ _) refl c.in_ok-write_fault_text.ensures.written in
    record {
      written = breaks_off _ _ _ _ _ (codes " at input") (values ++ codes "\n") c.from_residual-in_err-write_all.result _
          c.from_residual-in_err-write_all.ensures.1 fault refl c.in_err-write_all.ensures.written;
    }

pub returns-in_err-write_values : goal.returns-in_err-write_values
returns-in_err-write_values g c =
    let values = spaced c.args.found.now.input.items in
    let fault = goes_on _ _ _ _ _ (fault_text c.args.layout.now c.args.found.now.fault) (codes " at input" ++ (values ++ codes "\n"))
    (starts _ _) refl c.in_ok-write_fault_text.ensures.written in
    let words = goes_on _ _ _ _ _ (codes " at input") (values ++ codes "\n") fault refl c.in_ok-write_all.ensures.written in
    record {
      written = breaks_off _ _ _ _ _ (spaced c.as_slice.result.now) (codes "\n") c.from_residual-in_err-write_values.result _
          c.from_residual-in_err-write_values.ensures.1 words (ap (λ (vs : List ℤ). spaced vs ++ codes "\n") (sym c.as_slice.ensures.value))
          c.in_err-write_values.ensures.written;
    }

pub returns : goal.returns
returns g c =
    let values = spaced c.args.found.now.input.items in
    let fault = goes_on _ _ _ _ _ (fault_text c.args.layout.now c.args.found.now.fault) (codes " at input" ++ (values ++ codes "\n"))
    (starts _ _) refl c.in_ok-write_fault_text.ensures.written in
    let words = goes_on _ _ _ _ _ (codes " at input") (values ++ codes "\n") fault refl c.in_ok-write_all.ensures.written in
    let all = goes_on _ _ _ _ _ (spaced c.as_slice.result.now) (codes "\n") words
    (ap (λ (vs : List ℤ). spaced vs ++ codes "\n") (sym c.as_slice.ensures.value)) c.in_ok-write_values.ensures.written in
    record { written = closes _ _ _ _ _ c.write_all-2.result all c.write_all-2.ensures.written }
