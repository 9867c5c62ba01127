use Rattle.std.proofs.Common.{◌∙◌, ap, inr, refl}
use Rattle.pram_model.specs.Layout.{total_size}
use Rattle.program_texts.specs.Report.{IsMeaningRefused}
use Rattle.program_texts.specs.declared.from_text.Refusal.TheVariants as refusal
use Rattle.command_runs.proofs.Refusals.{stops_at_run}
use Rattle.command_runs.proofs.Steps.{fits_by, too_long_by}
use Rattle.command_runs.proofs.finding_steps.find_steps.Goals as goal

pub returns-then-len-cells-clause-refused : goal.returns-then-len-cells-clause-refused
returns-then-len-cells-clause-refused g c =
    let values = c.len.ensures ∙ c.in_ok-loaded.input.ok.0 in
    let cells = c.cells-cells.ensures.total ∙ ap total_size c.layout.ensures in
    inr (inr (stops_at_run (g.S.Sources.holds c.args.sources.now)
    c.in_ok-loaded.input.items c.in_ok-loaded.input.items _ refl c.deref.ensures.value
    c.cells-cells.result refusal.InputTooLong c.halted_run.result c.halted_run.ensures.stop c.halted_run.ensures.about
    IsMeaningRefused c.args.file.now c.args.words.opening c.in_ok-loaded.loaded c.in_ok-loaded.ensures.loaded c.in_ok-loaded.ensures.input
    cells (too_long_by _ _ _ _ values cells c.if-len-cells.true)))

pub invariant_of-result : goal.invariant_of-result
invariant_of-result g c = record {
  fits = fits_by _ _ _ _ (c.len.ensures ∙ c.in_ok-loaded.input.ok.0) (c.cells-cells.ensures.total ∙ ap total_size c.layout.ensures)
      c.if-len-cells.false;
}
