use Rattle.std.proofs.Common.{[]}
use Rattle.abstract_runs.specs.Effects.{IsGivenBy}
use Rattle.abstract_runs.proofs.Assigned.{given_then}
use Rattle.abstract_runs.proofs.Trails.{nothing_yet}
use Rattle.abstract_runs.proofs.assigning.element_written.Goals as goal

pub returns-in_ok-effect-in-Some-clause-tried : goal.returns-in_ok-effect-in-Some-clause-tried
returns-in_ok-effect-in-Some-clause-tried c = λ s shows.
    given_then (IsGivenBy c.in_ok-effect-in-Some.effect) _ _ _ _ _ _ _ c.in-Some.z c.in-Some.is
    (c.in_ok-z.ensures.tried s [] shows (nothing_yet c.args.trail.now.items c.requires)) c.in_ok-effect-in-Some.ensures.longer
    c.in_ok-effect-in-Some.ensures.kept
    (λ t2 v j g2. c.in_ok-effect-in-Some.ensures.tried s t2 v shows j g2)
