use Rattle.std.proofs.Common.{inr}
use Rattle.command_requests.proofs.Sizes.{hands_on}
use Rattle.command_runs.proofs.Specifications.{postcondition_held, postcondition_stops}
use Rattle.command_runs.proofs.specifying.load_specification.Goals as goal

pub returns-in_err-postcondition-clause-refused : goal.returns-in_err-postcondition-clause-refused
returns-in_err-postcondition-clause-refused g c =
    let h = c.in_err-postcondition.field-0.0 in
    hands_on _ h _ c.from_residual-in_err-postcondition.ensures.1
    (inr (postcondition_stops _ _ c.in_ok-precondition.ensures.same c.args.program.now.layout c.args.name.now
    c.args.files.now.postcondition h c.in_err-postcondition.ensures.refused))

pub returns-clause-loaded : goal.returns-clause-loaded
returns-clause-loaded g c = record {
  precondition = c.in_ok-precondition.ensures.loaded;
  postcondition = postcondition_held _ _ c.in_ok-precondition.ensures.same c.args.program.now.layout c.args.files.now.postcondition
      c.in_ok-postcondition.postcondition c.in_ok-postcondition.ensures.loaded;
}
