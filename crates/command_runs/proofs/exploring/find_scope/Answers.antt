use Rattle.std.proofs.Common.{◌∙◌, ap, inl, inr, subst}
use Rattle.pram_check.specs.Checked.{Checked}
use Rattle.command_facts.proofs.Programs.{program_in}
use Rattle.command_facts.proofs.Same.{named_held}
use Rattle.scopes.specs.Specified.{most_values}
use Rattle.command_runs.specs.Scopes.{IsRefusedFor, values_each}
use Rattle.command_runs.proofs.Rules.{same_each, same_values}
use Rattle.command_runs.proofs.Specifications.{specification_held, specification_stops}
use Rattle.command_runs.proofs.exploring.find_scope.Goals as goal

pub returns-in-Err-clause-refused : goal.returns-in-Err-clause-refused
returns-in-Err-clause-refused g c =
    let loaded = c.in_ok-loaded.loaded in
    inr (
      loaded.program,
      program_in (g.S.Sources.holds c.args.sources.now) c.args.file.now loaded c.in_ok-loaded.ensures.loaded,
      inl (specification_stops _ _ c.in_ok-loaded.ensures.same loaded.program.layout c.args.file.now.name.now c.args.files.now
          c.in-Err.halted c.in-Err.ensures.refused),
    )

pub returns-in-Ok-explore_all-clause-found : goal.returns-in-Ok-explore_all-clause-found
returns-in-Ok-explore_all-clause-found g c =
    let loaded = c.in_ok-loaded.loaded in
    record {
      loaded = loaded;
      is_loaded = c.in_ok-loaded.ensures.loaded;
      ran = c.under-program.ensures;
      specification = specification_held _ _ c.in_ok-loaded.ensures.same loaded.program.layout c.args.files.now
          c.in-Ok.specification c.in-Ok.ensures.loaded;
      some = c.in-Ok-explore_all.ensures.some;
      few = c.in-Ok-explore_all.ensures.few;
      fit = c.in-Ok-explore_all.ensures.fit;
      drawn = c.drawn_of.ensures;
      told = c.in-Ok-explore_all.ensures.told;
    }

pub returns-clause-refused : goal.returns-clause-refused
returns-clause-refused g c =
    let loaded = c.in_ok-loaded.loaded in
    let h = c.in-Err-explore_all.halted in
    let pre = c.in-Ok.specification.precondition in
    let workers = c.args.scope.workers in
    let is = c.args.scope.inputs in
    let program = c.under-program.result in
    let cells = ap (λ (p : Checked). most_values pre p) c.under-program.ensures ∙ same_values c.args.scope.rule pre loaded.program in
    let each = ap (λ (p : Checked). values_each is p) c.under-program.ensures ∙ same_each c.args.scope.rule is loaded.program in
    inr (
      loaded.program,
      program_in (g.S.Sources.holds c.args.sources.now) c.args.file.now loaded c.in_ok-loaded.ensures.loaded,
      inr (
        pre,
        named_held _ _ c.in_ok-loaded.ensures.same c.args.files.now.precondition pre c.in-Ok.ensures.loaded.precondition,
        subst (λ m. IsRefusedFor workers m (most_values pre loaded.program) h.stop h.about) each
            (subst (λ n. IsRefusedFor workers (values_each is program) n h.stop h.about) cells c.in-Err-explore_all.ensures.refused),
      ),
    )
