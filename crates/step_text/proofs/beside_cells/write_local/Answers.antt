use Rattle.text_out.proofs.Progress.{breaks_off, closes, goes_on, starts}
use Rattle.std.proofs.Common.{refl}
use Rattle.step_text.specs.BesideCells.{name_text, processor_text}
use Rattle.step_text.proofs.beside_cells.write_local.Goals as goal

pub returns-in_err-write_name : goal.returns-in_err-write_name
returns-in_err-write_name g c =
    let d = c.args.local.now in
    record {
      written = breaks_off _ _ _ _ _ (name_text c.args.tree.now c.args.at c.args.before d.change.cell) (processor_text d)
          c.from_residual.result _ c.from_residual.ensures.1 (starts _ _) refl c.in_err-write_name.ensures.written;
    }

pub returns : goal.returns
returns g c =
    let d = c.args.local.now in
    let name = goes_on _ _ _ _ _ (name_text c.args.tree.now c.args.at c.args.before d.change.cell) (processor_text d)
    (starts _ _) refl c.in_ok-write_name.ensures.written in
    record { written = closes _ _ _ _ _ c.write_processor.result name c.write_processor.ensures.written }
