use Rattle.std.proofs.Common.{◌∙◌, ap}
use Rattle.scopes.specs.Scopes.{inputs_left}
use Rattle.scopes.specs.declared.scope.Scope.{Scope}
use Rattle.scopes.proofs.Placed.{one_further}
use Rattle.scopes.proofs.inputs.input_at.Goals as goal

pub loop-passed-preserved : goal.loop-passed-preserved
loop-passed-preserved c =
    let old = c.loop-passed.inputs in
    let new = c.advance.new.self in
    record {
      same = c.advance.ensures.same ∙ c.loop-passed.invariant.same;
      left = ap (λ (t : Scope). inputs_left t new.over new.input.items) c.advance.ensures.same
          ∙ one_further c.args.scope (inputs_left old.scope old.over old.input.items) (inputs_left old.scope new.over new.input.items)
          old.input.items c.loop-passed.passed c.loop-passed.invariant.left c.advance.ensures.left;
    }
