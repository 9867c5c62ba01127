use Rattle.std.proofs.Common.{pos, sym, subst}
use Rattle.std.specs.Prelude.{slice_index_or}
use Rattle.all_inputs.specs.Overall.{Cover}
use Rattle.abstract_runs.proofs.Setting.{cover_stays}
use Rattle.abstract_runs.proofs.storing.join_interval.Goals as goal

pub returns-clause-stays : goal.returns-clause-stays
returns-clause-stays c = λ zs h.
    cover_stays c.set_interval.new.items.items zs c.args.place
    (c.set_interval.ensures.covers zs (slice_index_or zs c.args.place (pos 0)) h
    (c.join-joined.ensures.left (slice_index_or zs c.args.place (pos 0))
    (c.interval_at.ensures zs (subst (λ is. Cover is zs) (sym c.deref.ensures.value) h))))
