use Rattle.std.proofs.Common.{◌≡◌, ◌∙◌, ◌∷◌, ◌<◌, ℤ, List, ap, length, sym, subst}
use Rattle.scopes.specs.Scopes.{inputs_left, inputs_of}
use Rattle.scopes.specs.declared.scope.Scope.{Scope}
use Rattle.comparing.specs.Found.{found_is}
use Rattle.scopes.proofs.Explored.{fewer}
use Rattle.comparing.proofs.Gone.{Gone, further}
use Rattle.comparing.proofs.comparing.compare_scope.Goals as goal

pub trying-preserved : goal.trying-preserved
trying-preserved c =
    let w = c.args.precondition.now in
    let p = c.args.first.now in
    let q = c.args.second.now in
    let k = c.args.compared.now in
    let n = c.args.bound in
    let m = c.most_told-most.result in
    let all = inputs_of c.args.scope in
    let here = c.values-input.result.now in
    let old = c.trying.inputs in
    let new = c.advance.new.self in
    let left = inputs_left old.scope old.over old.input.items in
    let rest = inputs_left old.scope new.over new.input.items in
    let f = found_is c.trying.comparison in
    let g = found_is c.try_input.new.comparison in
    let is : left ≡ here ∷ rest = c.advance.ensures.left ∙ ap (λ (x : List ℤ). x ∷ rest) (sym c.values-input.ensures.values) in
    record {
      same = c.advance.ensures.same ∙ c.trying.invariant.same;
      so_far = subst (λ (t : Scope). Gone w p q k n m all (inputs_left t new.over new.input.items) g) (sym c.advance.ensures.same)
          (further w p q k n m all left rest here f g c.trying.invariant.so_far is c.in_ok-try_input.ensures.found);
    }

pub trying-smaller : goal.trying-smaller
trying-smaller c =
    let old = c.trying.inputs in
    let new = c.advance.new.self in
    let left = inputs_left old.scope old.over old.input.items in
    subst (λ (t : Scope). length (inputs_left t new.over new.input.items) < length left) (sym c.advance.ensures.same)
    (fewer left (inputs_left old.scope new.over new.input.items) old.input.items c.advance.ensures.left)
