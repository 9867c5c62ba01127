use Rattle.std.proofs.Common.{◌≡◌, ◌∙◌, ◌∷◌, ◌<◌, ℤ, List, ap, length, sym, subst}
use Rattle.scopes.specs.Scopes.{inputs_left}
use Rattle.scopes.specs.declared.scope.Scope.{Scope}
use Rattle.scopes.specs.Found.{found_is}
use Rattle.scopes.proofs.Explored.{Explored, fewer, further}
use Rattle.scopes.proofs.exploring.try_some.Goals as goal

pub trying-preserved : goal.trying-preserved
trying-preserved g c =
    let s = c.args.specification.now in
    let p = c.args.program.now in
    let n = c.args.bound in
    let first = c.args.inputs in
    let whole = inputs_left first.scope first.over first.input.items in
    let here = c.values-next.result.now in
    let old = c.trying.inputs in
    let new = c.advance.new.self in
    let left = inputs_left old.scope old.over old.input.items in
    let rest = inputs_left old.scope new.over new.input.items in
    let f = found_is c.trying.findings in
    let g = found_is c.explore_input.new.findings in
    let is : left ≡ here ∷ rest = c.advance.ensures.left ∙ ap (λ (x : List ℤ). x ∷ rest) (sym c.values-next.ensures.values) in
    record {
      same = c.advance.ensures.same ∙ c.trying.invariant.same;
      so_far = subst (λ (t : Scope). Explored s p n whole c.args.most (inputs_left t new.over new.input.items) g)
          (sym c.advance.ensures.same)
          (further s p n whole c.args.most left rest here f g c.trying.invariant.so_far c.trying-test.true is
          c.in-Ok.ensures.found);
    }

pub trying-smaller : goal.trying-smaller
trying-smaller g c =
    let old = c.trying.inputs in
    let new = c.advance.new.self in
    let left = inputs_left old.scope old.over old.input.items in
    subst (λ (t : Scope). length (inputs_left t new.over new.input.items) < length left) (sym c.advance.ensures.same)
    (fewer left (inputs_left old.scope new.over new.input.items) old.input.items c.advance.ensures.left)
