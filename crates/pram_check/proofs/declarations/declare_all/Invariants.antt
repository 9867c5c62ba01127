use Rattle.std.proofs.Common.{◌≡◌, ◌+◌, ◌++◌, ◌≤◌, [], drop, length}
use Rattle.pram_model.specs.Layout.{total_size}
use Rattle.pram_names.specs.Scope.{globals, declared_from, shared_entries, uniform_count}
use Rattle.pram_names.specs.Breaches.{declaration_breaches, first}
use Rattle.pram_check.proofs.declarations.declare_all.Given as goal

-- what is taken in, with what the rest will add, is what the whole gives
abbrev pub invariant-loop-d : goal.invariant-loop-d
invariant-loop-d l = record {
  few : l.uniforms ≤ l.d-index;
  scope : globals l.declarations ≡ l.scope ++ declared_from (length l.layout) l.uniforms (drop l.d-index l.declarations);
  layout : shared_entries l.declarations ≡ l.layout ++ shared_entries (drop l.d-index l.declarations);
  uniforms : uniform_count l.declarations ≡ l.uniforms + uniform_count (drop l.d-index l.declarations);
  first : first (declaration_breaches [] 0 0 0 l.declarations)
      ≡ first (declaration_breaches l.scope (length l.layout) l.uniforms (total_size l.layout) (drop l.d-index l.declarations));
}
