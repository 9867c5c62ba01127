use Rattle.std.proofs.Common.{◌∙◌, ap, inr}
use Rattle.pram_model.specs.Layout.{total_size}
use Rattle.command_runs.specs.Refused.{IsRefusedTo}
use Rattle.command_runs.proofs.Refusals.{stops_at_run}
use Rattle.command_runs.proofs.finding_run.find_trace.Goals as goal

pub returns-clause-refused : goal.returns-clause-refused
returns-clause-refused g c =
    inr (inr (stops_at_run (g.S.Sources.holds c.args.sources.now)
    c.in_ok-loaded.input.items _ _ c.deref.ensures.value c.deref-in-Err.ensures.value c.cells-cells.result
    c.in-Err.refusal c.halted_run.result c.halted_run.ensures.stop c.halted_run.ensures.about
    (IsRefusedTo c.args.words) c.args.file.now c.args.words.opening c.in_ok-loaded.loaded c.in_ok-loaded.ensures.loaded
    c.in_ok-loaded.ensures.input
    (c.cells-cells.ensures.total ∙ ap total_size c.layout.ensures) c.in-Err.ensures.stopped))
