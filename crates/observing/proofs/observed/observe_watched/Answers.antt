use Rattle.observing.proofs.Listened.{part_by}
use Rattle.observing.proofs.observed.observe_watched.Goals as goal

pub returns-clause-part : goal.returns-clause-part
returns-clause-part g c refused =
    part_by (λ w. w.listener) g.L.Listener.hears g.L.Listener.gives_up _ _ _ (c.observe-done.ensures.part refused)
