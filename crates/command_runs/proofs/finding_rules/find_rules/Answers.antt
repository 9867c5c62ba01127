use Rattle.std.proofs.Common.{◌∙◌, ap, inr, refl, subst, sym}
use Rattle.pram_model.specs.Layout.{total_size}
use Rattle.program_texts.specs.Report.{IsMeaningRefused}
use Rattle.program_texts.specs.declared.from_text.Refusal.{Refusal}
use Rattle.command_runs.proofs.Refusals.{no_meaning_by, stops_at_run}
use Rattle.command_runs.proofs.Comparisons.{comparison_found}
use Rattle.command_runs.proofs.finding_rules.find_rules.Goals as goal

pub returns-in-Ok-clause-found : goal.returns-in-Ok-clause-found
returns-in-Ok-clause-found g c =
    comparison_found (g.S.Sources.holds c.args.sources.now) c.args.file.now c.args.opening c.args.bound c.in_ok-loaded.loaded
    c.in_ok-loaded.input.items _ c.in-Ok.comparison c.deref.ensures.value c.in_ok-loaded.ensures.loaded c.in_ok-loaded.ensures.input
    c.in-Ok.ensures.layout c.in-Ok.ensures.fits c.in-Ok.ensures.comparison

pub returns-clause-refused : goal.returns-clause-refused
returns-clause-refused g c =
    let program = c.in_ok-loaded.loaded.program in
    let why = subst (λ (r : Refusal). IsMeaningRefused program c.deref.result.now r) (sym c.from.ensures)
    (no_meaning_by program c.deref.result.now c.in-Err.why _ refl c.in-Err.ensures.too_long) in
    inr (inr (stops_at_run (g.S.Sources.holds c.args.sources.now)
    c.in_ok-loaded.input.items _ _ c.deref.ensures.value c.deref-in-Err.ensures.value c.cells-cells.result
    c.from.result c.halted_run.result c.halted_run.ensures.stop c.halted_run.ensures.about
    IsMeaningRefused c.args.file.now c.args.opening c.in_ok-loaded.loaded c.in_ok-loaded.ensures.loaded c.in_ok-loaded.ensures.input
    (c.cells-cells.ensures.total ∙ ap total_size c.layout.ensures) why))
