use Rattle.std.proofs.Common.{refl}
use Rattle.text_out.proofs.Progress.{breaks_off, closes, goes_on, starts}
use Rattle.step_text.specs.BesideCells.{processor_head}
use Rattle.step_text.specs.ValueTexts.{value_text}
use Rattle.step_text.proofs.beside_cells.write_processor.Goals as goal

pub returns-in_err-write_processor_head : goal.returns-in_err-write_processor_head
returns-in_err-write_processor_head g c = record {
  written = breaks_off _ _ _ _ _ (processor_head c.args.local.now.processor) (value_text c.args.local.now.change) c.from_residual.result _
      c.from_residual.ensures.1 (starts _ _) refl c.in_err-write_processor_head.ensures.written;
}

pub returns : goal.returns
returns g c =
    let first = goes_on _ _ _ _ _ (processor_head c.args.local.now.processor) (value_text c.args.local.now.change)
    (starts _ _) refl c.in_ok-write_processor_head.ensures.written in
    record { written = closes _ _ _ _ _ c.write_value.result first c.write_value.ensures.written }
