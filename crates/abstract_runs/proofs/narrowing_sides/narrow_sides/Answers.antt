use Rattle.std.proofs.Common.{arith, tests, ◌∙◌, subst}
use Rattle.abstract_runs.specs.Covers.{IsAmong}
use Rattle.abstract_runs.proofs.narrowing_sides.narrow_sides.Goals as goal

pub returns-then-not-branch-clause-kept : goal.returns-then-not-branch-clause-kept
returns-then-not-branch-clause-kept c = λ m x y stands left right is.
    let on = (c.in_ok-narrow_value.ensures.kept m x y stands left (subst (λ f. IsAmong f y) c.in-Some-2.is
    (c.in_ok-rights.ensures m y stands right)) is).0 in
    let off = c.if-not-branch.true in absurd (grind (arith, tests, on, off))

pub returns-clause-kept : goal.returns-clause-kept
returns-clause-kept c = λ m x y stands left right is.
    c.in_ok-on.ensures.kept m y x
    (c.in_ok-narrow_value.ensures.kept m x y stands left (subst (λ f. IsAmong f y) c.in-Some-2.is (c.in_ok-rights.ensures m y stands right))
    is).1 right (subst (λ f. IsAmong f x) c.in-Some.is (c.in_ok-lefts.ensures m x stands left)) (c.mirrored.ensures y x ∙ is)
