use Rattle.std.proofs.Common.{◌≡◌, drop}
use Rattle.scopes.specs.Scopes.{inputs_left, inputs_of}
use Rattle.scopes.proofs.inputs.input_at.Given as goal

abbrev pub invariant-loop-passed : goal.invariant-loop-passed
invariant-loop-passed l = record {
  same : l.inputs.scope ≡ l.fn.scope;
  left : inputs_left l.inputs.scope l.inputs.over l.inputs.input.items ≡ drop l.passed (inputs_of l.fn.scope);
}
