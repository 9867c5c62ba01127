use Rattle.std.proofs.Common.{◌∙◌, List, ap, inl, inr, subst}
use Rattle.pram_model.specs.Layout.{SharedEntry, total_size}
use Rattle.superstep_instructions.specs.Code.{SuperstepCode}
use Rattle.command_facts.specs.Found.{IsOpening}
use Rattle.command_facts.specs.Refused.{StopsAtOpening}
use Rattle.command_facts.proofs.Same.{opening_held, opening_stops}
use Rattle.command_requests.proofs.Sizes.{hands_on}
use Rattle.command_runs.specs.Refused.{IsUnknownIn}
use Rattle.command_runs.proofs.Refusals.{stops_at_code_run}
use Rattle.command_runs.proofs.finding_run.find_code_run.Goals as goal

pub returns-in_err-check_names-clause-refused : goal.returns-in_err-check_names-clause-refused
returns-in_err-check_names-clause-refused g c =
    let h = c.in_err-check_names.field-0.0 in
    let laid = c.layout.ensures.value ∙ ap (λ (code : SuperstepCode). code.layout) c.code-2.ensures.value in
    hands_on _ h _ c.from_residual-in_err-check_names.ensures.1 (inr (inl (
      c.in_ok-code.code,
      c.in_ok-code.ensures.held,
      c.in_ok-code.ensures.verified,
      inl (subst (λ (l : List SharedEntry). IsUnknownIn l c.args.shown h.stop h.about) laid c.in_err-check_names.ensures.unknown),
    )))

pub returns-in_err-input-clause-refused : goal.returns-in_err-input-clause-refused
returns-in_err-input-clause-refused g c =
    let h = c.in_err-input.field-0.0 in
    let laid = c.layout-2.ensures.value ∙ ap (λ (code : SuperstepCode). code.layout) c.code-3.ensures.value in
    let stops = opening_stops _ _ c.in_ok-code.ensures.same c.layout-2.result.now c.args.words.opening h c.in_err-input.ensures.refused in
    hands_on _ h _ c.from_residual-in_err-input.ensures.1 (inr (inl (
      c.in_ok-code.code,
      c.in_ok-code.ensures.held,
      c.in_ok-code.ensures.verified,
      inr (subst (λ (l : List SharedEntry). StopsAtOpening (g.S.Sources.holds c.args.sources.now) l c.args.words.opening h) laid stops),
    )))

pub returns-clause-refused : goal.returns-clause-refused
returns-clause-refused g c =
    let input = c.in_ok-input.input.items in
    let laid = c.layout-2.ensures.value ∙ ap (λ (code : SuperstepCode). code.layout) c.code-3.ensures.value in
    let given = subst (λ (l : List SharedEntry). IsOpening (g.S.Sources.holds c.args.sources.now) l c.args.words.opening input) laid
    (opening_held _ _ c.in_ok-code.ensures.same c.layout-2.result.now c.args.words.opening input c.in_ok-input.ensures.values) in
    let cells = c.cells-cells.ensures.total ∙ ap total_size
    (c.layout-in-Err.ensures.value ∙ ap (λ (code : SuperstepCode). code.layout) c.code-in-Err.ensures.value) in
    inr (inr (stops_at_code_run (g.S.Sources.holds c.args.sources.now)
    input _ _ c.deref.ensures.value c.deref-in-Err.ensures.value c.cells-cells.result c.in-Err.refusal
    c.halted_run.result c.halted_run.ensures.stop c.halted_run.ensures.about
    c.args.file.now c.args.words c.in_ok-code.code c.in_ok-code.ensures.held c.in_ok-code.ensures.verified given cells
    c.in-Err.ensures.refused))
