use Rattle.std.proofs.Common.{◌++◌, ◌∷◌, [], sym, ap, ◌∙◌, arith}
use Rattle.pram_names.specs.declared.scope.Meaning.TheVariants.{Local}
use Rattle.pram_names.proofs.Judging.{exit}
use Rattle.pram_names.proofs.Judging.{none_in}
use Rattle.pram_names.proofs.Locals.{locals_more, breaches_more, leads_local}
use Rattle.pram_names.proofs.range.declare_locals.Goals as goal

pub returns-in_err-new_name : goal.returns-in_err-new_name
returns-in_err-new_name c =
    let l = c.loop-x.invariant in
    exit _ _ _ c.from_residual.result _ c.from_residual.ensures.1 c.in_err-new_name.ensures
    (leads_local c.args.scope.now c.loop-x.scope c.args.locals.now c.loop-x.x-index c.loop-x.count c.x-item.result c.loop-x-test.true
    c.x-item.is l.count l.scope l.none)

pub loop-x-preserved : goal.loop-x-preserved
loop-x-preserved c =
    let l = c.loop-x.invariant in
    let s = c.args.scope.now in
    let xs = c.args.locals.now in
    let i = c.loop-x.x-index in
    let d = c.x-item.result in
    record {
      count = omega (arith, l.count);
      scope = c.in_ok-declare.ensures.ok ∙ (ap (λ t. c.loop-x.scope ++ (t, Local c.loop-x.count) ∷ []) c.as_slice.ensures
          ∙ sym (locals_more s c.loop-x.scope xs i c.loop-x.count d c.loop-x-test.true c.x-item.is l.count l.scope));
      none = none_in _ _ _ (breaches_more s c.loop-x.scope xs i c.loop-x.count d c.loop-x-test.true c.x-item.is l.count l.scope) l.none
          c.in_ok-new_name.ensures.0;
    }
