use Rattle.std.proofs.Common.{subst, take}
use Rattle.std.proofs.lemmas.List.{take-take}
use Rattle.journal.specs.RunEntries.{run_entries}
use Rattle.pages.specs.Gathered.{IsAfter}
use Rattle.pages.proofs.AllLines.{some_is}
use Rattle.pages.proofs.behind.state_behind.Goals as goal

pub returns-in-Some : goal.returns-in-Some
returns-in-Some g c = record {
  state = λ most recent within.
      let input = c.args.input.now in
      let es = run_entries c.args.program.now input c.args.bound in
      let behind = some_is _ c.in_ok-state.field-0 c.in-Some.state c.in-Some.is c.in_ok-state.ensures in
      subst (λ es. IsAfter input es c.in-Some.state) (take-take c.args.behind most es within) (behind input (take most es) recent);
}
