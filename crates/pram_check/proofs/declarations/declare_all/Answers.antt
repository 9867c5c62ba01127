use Rattle.std.proofs.Common.{◌+◌, ◌++◌, ap, ◌∙◌, arith, length, drop}
use Rattle.pram_model.specs.Layout.{total_size}
use Rattle.pram_names.specs.Scope.{declared_from, shared_entries, uniform_count}
use Rattle.pram_names.specs.Breaches.{declaration_breaches, first}
use Rattle.pram_names.proofs.Judging.{exit}
use Rattle.pram_check.proofs.DeclarationSteps.{step_scope, step_entries, step_uniforms, step_first, leads_declaration, rest_is}
use Rattle.pram_check.proofs.DeclarationSteps.{few_uniforms}
use Rattle.pram_check.proofs.declarations.declare_all.Goals as goal

pub returns-in_err-uniforms : goal.returns-in_err-uniforms
returns-in_err-uniforms c =
    let ds = c.args.declarations.now in
    let i = c.loop-d.d-index in
    let d = c.d-item.result in
    let s = c.loop-d.scope in
    let es = c.loop-d.layout in
    let u = c.loop-d.uniforms in
    exit _ _ _ c.from_residual.result _ c.from_residual.ensures.1 c.in_err-uniforms.ensures
    (λ b h. c.loop-d.invariant.first
    ∙ (ap (λ l. first (declaration_breaches s (length es) u (total_size es) l)) (rest_is ds i d c.loop-d-test.true c.d-item.is)
    ∙ leads_declaration s (length es) u (total_size es) d (drop (i + 1) ds) b h))

pub loop-d-preserved : goal.loop-d-preserved
loop-d-preserved c =
    let ds = c.args.declarations.now in
    let i = c.loop-d.d-index in
    let d = c.d-item.result in
    let s = c.loop-d.scope in
    let es = c.loop-d.layout in
    let u = c.loop-d.uniforms in
    let so_far = c.loop-d.invariant in
    let one = c.in_ok-uniforms.ensures in
    let rest = rest_is ds i d c.loop-d-test.true c.d-item.is in
    let few = few_uniforms d in
    record {
      few = omega (arith, few, so_far.few, one.1.2);
      scope = so_far.scope ∙ (ap (λ l. s ++ declared_from (length es) u l) rest
          ∙ step_scope s _ es _ u _ d (drop (i + 1) ds) one.1.0 one.1.1 one.1.2);
      layout = so_far.layout ∙ (ap (λ l. es ++ shared_entries l) rest
          ∙ step_entries s _ es _ u _ d (drop (i + 1) ds) one.1.0 one.1.1 one.1.2);
      uniforms = so_far.uniforms ∙ (ap (λ l. u + uniform_count l) rest
          ∙ step_uniforms s _ es _ u _ d (drop (i + 1) ds) one.1.0 one.1.1 one.1.2);
      first = so_far.first ∙ (ap (λ l. first (declaration_breaches s (length es) u (total_size es) l)) rest
          ∙ step_first s _ es _ u _ d (drop (i + 1) ds) one.1.0 one.1.1 one.1.2 one.0);
    }
