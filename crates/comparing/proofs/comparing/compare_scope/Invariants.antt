use Rattle.std.proofs.Common.{◌≡◌, length}
use Rattle.scopes.specs.Scopes.{inputs_left, inputs_of}
use Rattle.comparing.specs.Found.{found_is}
use Rattle.comparing.proofs.Gone.{Gone}
use Rattle.comparing.proofs.comparing.compare_scope.Given as goal

abbrev pub invariant-trying : goal.invariant-trying
invariant-trying l = record {
  same : l.inputs.scope ≡ l.fn.scope;
  so_far : Gone l.fn.precondition l.fn.first l.fn.second l.fn.compared l.fn.bound l.most (inputs_of l.fn.scope)
      (inputs_left l.inputs.scope l.inputs.over l.inputs.input.items) (found_is l.comparison);
}

abbrev pub decreases-trying : goal.decreases-trying
decreases-trying l = length (inputs_left l.inputs.scope l.inputs.over l.inputs.input.items)
