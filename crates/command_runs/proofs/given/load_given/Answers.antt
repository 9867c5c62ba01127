use Rattle.std.proofs.Common.{List, inr, subst}
use Rattle.pram_model.specs.Layout.{SharedEntry}
use Rattle.command_facts.specs.Found.{IsOpening}
use Rattle.command_facts.specs.Refused.{StopsAtOpening}
use Rattle.command_facts.proofs.Programs.{program_in}
use Rattle.command_facts.proofs.Same.{opening_held, opening_stops}
use Rattle.command_requests.proofs.Sizes.{hands_on}
use Rattle.command_runs.proofs.given.load_given.Goals as goal

pub returns-in_err-input-clause-refused : goal.returns-in_err-input-clause-refused
returns-in_err-input-clause-refused g c =
    let loaded = c.in_ok-loaded.loaded in
    let h = c.in_err-input.field-0.0 in
    let stops = opening_stops _ _ c.in_ok-loaded.ensures.same c.layout.result.now c.args.opening h c.in_err-input.ensures.refused in
    hands_on _ h _ c.from_residual-in_err-input.ensures.1 (inr (
      loaded.program,
      program_in (g.S.Sources.holds c.args.sources.now) c.args.file.now loaded c.in_ok-loaded.ensures.loaded,
      inr (subst (λ (l : List SharedEntry). StopsAtOpening (g.S.Sources.holds c.args.sources.now) l c.args.opening h) c.layout.ensures
          stops),
    ))

pub returns-clause-input : goal.returns-clause-input
returns-clause-input g c =
    let input = c.in_ok-input.input.items in
    subst (λ (l : List SharedEntry). IsOpening (g.S.Sources.holds c.args.sources.now) l c.args.opening input) c.layout.ensures
    (opening_held _ _ c.in_ok-loaded.ensures.same c.layout.result.now c.args.opening input c.in_ok-input.ensures.values)
