use Rattle.std.proofs.Common.{[]}
use Rattle.abstract_runs.proofs.AnyTrail.{among_tried}
use Rattle.abstract_runs.proofs.Trails.{nothing_yet}
use Rattle.abstract_runs.proofs.slot.value_seen.Goals as goal

pub returns : goal.returns
returns c = λ s z shows h.
    among_tried s c.args.e.now z c.in_ok-value.value _ _
    (c.in_ok-value.ensures.tried s [] shows (nothing_yet c.new-trail.result.items c.new-trail.ensures.items)) h
