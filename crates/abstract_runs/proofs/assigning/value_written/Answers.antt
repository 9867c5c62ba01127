use Rattle.abstract_runs.specs.Effects.{IsGivenBy}
use Rattle.abstract_runs.proofs.Assigned.{given_then}
use Rattle.abstract_runs.proofs.assigning.value_written.Goals as goal

pub returns-in_ok-effect-in-Some-clause-tried : goal.returns-in_ok-effect-in-Some-clause-tried
returns-in_ok-effect-in-Some-clause-tried c = λ s t z shows i g.
    given_then (IsGivenBy c.in_ok-effect-in-Some.effect) _ _ _ _ _ _ _ c.in-Some.value c.in-Some.is
    (c.in_ok-value.ensures.tried s t shows g) c.in_ok-effect-in-Some.ensures.longer c.in_ok-effect-in-Some.ensures.kept
    (λ t2 v j g2. c.in_ok-effect-in-Some.ensures.tried s t2 z v shows i j g2)
