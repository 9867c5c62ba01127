use Rattle.std.proofs.Common.{◌∙◌, IfOk, ap, inr, subst, sym}
use Rattle.std.specs.Option.{unwrap_or}
use Rattle.pram_model.specs.Layout.{total_size}
use Rattle.pram_check.specs.Checked.{Checked}
use Rattle.command_facts.proofs.Programs.{program_in}
use Rattle.command_runs.specs.Overalls.{IsAsked, IsUnfitFor, Tells}
use Rattle.command_runs.proofs.Rules.{same_layout}
use Rattle.command_runs.proofs.surveying.find_overall.Goals as goal

pub returns-in-Ok-clause-found : goal.returns-in-Ok-clause-found
returns-in-Ok-clause-found g c =
    let found = c.in-Ok.found in
    let same = sym c.in-Ok.ensures.program in
    record {
      loaded = c.in_ok-loaded.loaded;
      is_loaded = c.in_ok-loaded.ensures.loaded;
      ran = c.in-Ok.ensures.program ∙ c.under-program.ensures;
      asked = subst (λ p. IsAsked c.args.words p found.scope) same c.in-Ok.ensures.asked;
      told = subst (λ p. IfOk found.told (Tells p found.scope c.args.bound)) same c.in-Ok.ensures.told;
      decided = c.in-Ok.ensures.decided;
    }

pub returns-clause-refused : goal.returns-clause-refused
returns-clause-refused g c =
    let loaded = c.in_ok-loaded.loaded in
    let why = c.in-Err.why in
    let layout = ap (λ (p : Checked). p.layout) c.under-program.ensures ∙ same_layout c.args.words.rule loaded.program in
    inr (
      loaded.program,
      program_in (g.S.Sources.holds c.args.sources.now) c.args.file.now loaded c.in_ok-loaded.ensures.loaded,
      subst (λ l. IsUnfitFor (unwrap_or c.args.words.cells (total_size l)) (total_size l) why.stop why.about) layout c.in-Err.ensures.refused,
    )
