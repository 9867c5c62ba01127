use Rattle.std.proofs.Common.{pos, refl, sym, subst, ap, ◌∙◌, ◌-◌, ◌++◌, length, replicate, arith}
use Rattle.pram_model.specs.Layout.{total_size}
use Rattle.all_inputs.specs.Overall.{Cover}
use Rattle.abstract_runs.proofs.Nearness.{near_from}
use Rattle.abstract_runs.proofs.Opening.{cover_same}
use Rattle.abstract_runs.proofs.overall.opening.Goals as goal

pub returns : goal.returns
returns c = λ input h. record {
  known_as = record {
    least = omega arith;
    most = omega arith;
    uniforms = subst (λ is. Cover is (replicate c.args.program.now.uniforms (pos 0)))
        (sym (c.in_ok-uniforms.ensures.items_if_clones_equal (λ y same. same) ∙ ap (λ n. replicate n c.point.result) c.uniforms.ensures))
        (cover_same c.args.program.now.uniforms c.point.result (pos 0) ((c.point.ensures.member (pos 0)).1 refl));
    cells = subst (λ n. Cover c.in_ok-cells.cells.items (input ++ replicate (n - length input) (pos 0)))
        (c.cells.ensures.total ∙ ap total_size c.layout.ensures) (c.in_ok-cells.ensures input h);
    near = near_from c.in_ok-origins.origins.items (replicate c.args.program.now.uniforms (pos 0))
        (subst (λ is. Cover is (replicate c.args.program.now.uniforms (pos 0)))
        (sym (c.in_ok-origins.ensures.items_if_clones_equal (λ y same. same) ∙ ap (λ n. replicate n c.point-2.result) c.uniforms-2.ensures))
        (cover_same c.args.program.now.uniforms c.point-2.result (pos 0) ((c.point-2.ensures.member (pos 0)).1 refl)));
  };
  team = refl;
}
