use Rattle.std.proofs.Common.{◌++◌, ◌∙◌, [], codes, refl}
use Rattle.std.specs.Prelude.{decimal}
use Rattle.program_texts.specs.Shown.{kind_text, place_text}
use Rattle.text_out.proofs.Progress.{breaks_off, closes, goes_on, starts}
use Rattle.program_texts.proofs.ShownLemmas.{fault_split}
use Rattle.program_texts.proofs.outcome_text.write_fault_text.Goals as goal

pub returns-in_err-write_parts : goal.returns-in_err-write_parts
returns-in_err-write_parts g c =
    let f = c.args.fault.now in
    let at = fault_split (kind_text f.kind) _ (place_text c.args.layout.now f.place) (decimal f.line) _ c.kind_bytes.ensures refl in
    record {
      written = breaks_off _ _ _ _ _ _ _ c.from_residual.result _ c.from_residual.ensures.1
          (starts _ _) at c.in_err-write_parts.ensures.written;
    }

pub returns-in_err-write_place : goal.returns-in_err-write_place
returns-in_err-write_place g c =
    let f = c.args.fault.now in
    let place = place_text c.args.layout.now f.place in
    let at = fault_split (kind_text f.kind) _ place (decimal f.line) _ c.kind_bytes.ensures refl in
    let kind = goes_on _ _ _ _ _ _ _ (starts _ _) at c.in_ok-write_parts.ensures.written in
    record {
      written = breaks_off _ _ _ _ _ _ (codes " line " ++
          (decimal f.line ++ [])) c.from_residual-in_err-write_place.result _ c.from_residual-in_err-write_place.ensures.1 kind refl
          c.in_err-write_place.ensures.written;
    }

pub returns : goal.returns
returns g c =
    let f = c.args.fault.now in
    let place = place_text c.args.layout.now f.place in
    let digits = c.as_bytes.ensures.value ∙ c.format.ensures.text in
    let at = fault_split (kind_text f.kind) _ place (decimal f.line) _ c.kind_bytes.ensures digits in
    let kind = goes_on _ _ _ _ _ _ _ (starts _ _) at c.in_ok-write_parts.ensures.written in
    let placed = goes_on _ _ _ _ _ _ _ kind refl c.in_ok-write_place.ensures.written in
    record { written = closes _ _ _ _ _ c.write_parts-2.result placed c.write_parts-2.ensures.written }
