use Rattle.std.proofs.Common.{pos, sym, subst}
use Rattle.std.specs.Prelude.{slice_index_or}
use Rattle.all_inputs.specs.Overall.{Cover}
use Rattle.abstract_runs.proofs.Nearness.{near_farther, each_read}
use Rattle.abstract_runs.proofs.Setting.{cover_stays}
use Rattle.abstract_runs.proofs.holding.hold_back.Goals as goal

pub returns-clause-known : goal.returns-clause-known
returns-clause-known c = λ m h. record {
  least = h.least;
  most = h.most;
  uniforms = cover_stays c.set_interval.new.items.items m.uniforms c.args.x
      (c.set_interval.ensures.covers m.uniforms (slice_index_or m.uniforms c.args.x (pos 0)) h.uniforms
      (c.held_back-left.ensures (slice_index_or h.near.numbers c.args.x (pos 0)) (slice_index_or m.uniforms c.args.x (pos 0))
      (c.interval_at-2.ensures h.near.numbers (subst (λ is. Cover is h.near.numbers) (sym c.deref-2.ensures.value) h.near.from))
      (near_farther m.count c.args.known.now.most _ _ h.most (each_read m.count h.near.numbers m.uniforms c.args.x h.near.near))
      (c.interval_at.ensures m.uniforms (subst (λ is. Cover is m.uniforms) (sym c.deref.ensures.value) h.uniforms))));
  cells = h.cells;
  near = h.near;
}
