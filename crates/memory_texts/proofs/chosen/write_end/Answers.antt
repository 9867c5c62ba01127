use Rattle.std.proofs.Common.{codes, refl}
use Rattle.program_texts.specs.Shown.{line}
use Rattle.text_out.proofs.Progress.{breaks_off, starts}
use Rattle.memory_texts.proofs.chosen.write_end.Goals as goal

pub returns-in_err-write_items : goal.returns-in_err-write_items
returns-in_err-write_items g c = record {
  written = breaks_off _ _ _ _ _ _ (line (codes "ended")) c.from_residual.result _ c.from_residual.ensures.1
      (starts _ _) refl c.in_err-write_items.ensures.written;
}
