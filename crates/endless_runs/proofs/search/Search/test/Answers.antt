use Rattle.std.proofs.Common.{rules, ◌≡◌, ◌∙◌, ap, of_z, to_z, w64, ℤ}
use Rattle.pram_meaning.specs.Runs.{state_of}
use Rattle.pram_values.specs.Truth.{is_nonzero}
use Rattle.endless_runs.proofs.Walk.{ran_found}
use Rattle.endless_runs.proofs.search.Search.test.Goals as goal

pub returns-clause-tested : goal.returns-clause-tested
returns-clause-tested c =
    let v : ℤ = c.in_ok-value.value in
    let same : to_z w64 (of_z w64 v) ≡ v = search rules in
    ran_found c.args.self.now.interpreter.program.now c.args.self.now.interpreter.bound c.args.location.line c.args.test.now
    (state_of c.args.run.now) (state_of c.run_value.new.run) v c.is_true.result c.requires.within
    c.in_ok-value.ensures.value (c.is_true.ensures ∙ ap is_nonzero same)
