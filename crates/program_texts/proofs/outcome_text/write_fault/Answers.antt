use Rattle.std.proofs.Common.{◌∷◌, [], refl}
use Rattle.program_texts.specs.Shown.{fault_text}
use Rattle.text_out.proofs.Progress.{breaks_off, closes, goes_on, starts}
use Rattle.program_texts.proofs.outcome_text.write_fault.Goals as goal

pub returns-in_err-write_fault_text : goal.returns-in_err-write_fault_text
returns-in_err-write_fault_text g c = record {
  written = breaks_off _ _ _ _ _ (fault_text c.args.layout.now c.args.fault.now) (10 ∷ []) c.from_residual.result _
      c.from_residual.ensures.1 (starts _ _) refl c.in_err-write_fault_text.ensures.written;
}

pub returns : goal.returns
returns g c =
    let text = goes_on _ _ _ _ _ (fault_text c.args.layout.now c.args.fault.now) (10 ∷ []) (starts _ _) refl
    c.in_ok-write_fault_text.ensures.written in
    record { written = closes _ _ _ _ _ c.write_all.result text c.write_all.ensures.written }
