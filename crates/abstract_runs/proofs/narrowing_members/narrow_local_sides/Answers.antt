use Rattle.std.proofs.Common.{◌∙◌, subst}
use Rattle.abstract_runs.specs.Covers.{IsAmong}
use Rattle.abstract_runs.proofs.narrowing_members.narrow_local_sides.Goals as goal

pub returns : goal.returns
returns c = λ s x y shows cover left right is.
    c.narrow_local-2.ensures s y x
    (c.narrow_local.ensures s x y cover left (subst (λ f. IsAmong f y) c.in-Some-2.is (c.in_ok-rights.ensures s y shows right)) is)
    right (subst (λ f. IsAmong f x) c.in-Some.is (c.in_ok-lefts.ensures s x shows left)) (c.mirrored.ensures y x ∙ is)
