use Rattle.std.proofs.Common.{sym, subst}
use Rattle.std.specs.Prelude.{slice_set}
use Rattle.abstract_runs.specs.Near.{AreNear}
use Rattle.abstract_runs.proofs.Nearness.{near_stepped}
use Rattle.abstract_runs.proofs.counters.step_uniform.Goals as goal

pub returns-clause-stands : goal.returns-clause-stands
returns-clause-stands c = λ m v h begun step i. record {
  known_as = record {
    least = h.known_as.least;
    most = h.known_as.most;
    uniforms = c.set_interval.ensures.covers m.uniforms v h.known_as.uniforms i;
    cells = h.known_as.cells;
    near = subst (λ far. AreNear far c.args.known.now.origins.items (slice_set m.uniforms c.args.x v)) (sym begun.one_more)
        (near_stepped begun.before c.args.known.now.origins.items m.uniforms c.args.x v begun.near step);
  };
  team = h.team;
}
