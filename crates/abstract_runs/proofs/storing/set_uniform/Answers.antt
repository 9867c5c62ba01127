use Rattle.abstract_runs.proofs.Nearness.{near_set}
use Rattle.abstract_runs.proofs.storing.set_uniform.Goals as goal

pub returns-clause-known : goal.returns-clause-known
returns-clause-known c = λ m v h i. record {
  least = h.least;
  most = h.most;
  uniforms = c.set_interval.ensures.covers m.uniforms v h.uniforms i;
  cells = h.cells;
  near = near_set m.count c.args.known.now.origins.items c.set_interval-2.new.items.items m.uniforms c.args.x v
      (λ os from. c.set_interval-2.ensures.covers os v from i) h.near;
}
