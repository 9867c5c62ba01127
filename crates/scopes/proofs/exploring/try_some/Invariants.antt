use Rattle.std.proofs.Common.{◌≡◌, length}
use Rattle.scopes.specs.Scopes.{inputs_left}
use Rattle.scopes.specs.Found.{found_is}
use Rattle.scopes.proofs.Explored.{Explored}
use Rattle.scopes.proofs.exploring.try_some.Given as goal

abbrev pub invariant-trying : goal.invariant-trying
invariant-trying g l = record {
  same : l.inputs.scope ≡ l.fn.inputs.scope;
  so_far : Explored l.fn.specification l.fn.program l.fn.bound
      (inputs_left l.fn.inputs.scope l.fn.inputs.over l.fn.inputs.input.items) l.fn.most
      (inputs_left l.inputs.scope l.inputs.over l.inputs.input.items) (found_is l.findings);
}

abbrev pub decreases-trying : goal.decreases-trying
decreases-trying g l = length (inputs_left l.inputs.scope l.inputs.over l.inputs.input.items)
