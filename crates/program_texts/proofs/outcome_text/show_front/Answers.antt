use Rattle.std.proofs.Common.{codes, refl}
use Rattle.program_texts.specs.Shown.{line}
use Rattle.text_out.proofs.Progress.{breaks_off, starts}
use Rattle.program_texts.proofs.outcome_text.show_front.Goals as goal

pub returns-in_err-write_items : goal.returns-in_err-write_items
returns-in_err-write_items g c = record {
  written = breaks_off _ _ _ _ _ _ (line
      (codes "goes on")) c.from_residual.result _ c.from_residual.ensures.1
      (starts _ _) refl c.in_err-write_items.ensures.written;
}
