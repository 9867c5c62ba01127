use Rattle.std.proofs.Common.{refl}
use Rattle.program_texts.specs.Shown.{fault_text, item_lines, line}
use Rattle.text_out.proofs.Progress.{breaks_off, closes, goes_on, starts}
use Rattle.program_texts.proofs.outcome_text.show_fault.Goals as goal

pub returns-in_err-write_items : goal.returns-in_err-write_items
returns-in_err-write_items g c =
    let last = line (fault_text c.args.layout.now c.args.fault.now) in
    record {
      written = breaks_off _ _ _ _ _ (item_lines c.args.output.now) last c.from_residual.result _ c.from_residual.ensures.1
          (starts _ _) refl c.in_err-write_items.ensures.written;
    }

pub returns : goal.returns
returns g c =
    let last = line (fault_text c.args.layout.now c.args.fault.now) in
    let items = goes_on _ _ _ _ _ (item_lines c.args.output.now) last
    (starts _ _) refl c.in_ok-write_items.ensures.written in
    record { written = closes _ _ _ _ _ c.write_fault.result items c.write_fault.ensures.written }
