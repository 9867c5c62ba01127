use Rattle.std.proofs.Common.{[], ◌≡◌, rules, ◌∙◌, sym, subst, to_z, of_z, w64}
use Rattle.abstract_runs.specs.Covers.{IsAmong}
use Rattle.abstract_runs.proofs.Bounding.{bounds_tried, pair_is}
use Rattle.abstract_runs.proofs.Halted.{AreOpenAt, handed, high_open, low_open}
use Rattle.abstract_runs.proofs.Trails.{nothing_yet}
use Rattle.abstract_runs.proofs.bounds.bounds.Goals as goal

pub returns-in_default-2-clause-tried : goal.returns-in_default-2-clause-tried
returns-in_default-2-clause-tried c = λ s shows.
    bounds_tried _ s c.args.low.now c.args.high.now _ _ _ _ c.in_ok-a.field-0 c.in_ok-b.field-0 c.in-Some.a c.in-Some.is
    (c.in_ok-a.ensures.tried s [] shows (nothing_yet c.args.trail.now.items c.requires)) c.in_ok-b.ensures.longer c.in_ok-b.ensures.kept
    (λ t g. c.in_ok-b.ensures.tried s t shows g)
    (λ x y i j. absurd (subst (λ o. IsAmong o y) c.in_default-2.is j))

pub returns-clause-tried : goal.returns-clause-tried
returns-clause-tried c = λ s shows.
    let first : to_z w64 (of_z w64 c.in_ok-first.first) ≡ c.in_ok-first.first = search rules in
    let last : to_z w64 (of_z w64 c.in_ok-last.last) ≡ c.in_ok-last.last = search rules in
    bounds_tried _ s c.args.low.now c.args.high.now _ _ _ _ c.in_ok-a.field-0 c.in_ok-b.field-0 c.in-Some.a c.in-Some.is
    (c.in_ok-a.ensures.tried s [] shows (nothing_yet c.args.trail.now.items c.requires)) c.in_ok-b.ensures.longer c.in_ok-b.ensures.kept
    (λ t g. c.in_ok-b.ensures.tried s t shows g)
    (λ x y i j. pair_is (c.in_ok-first.ensures.number x i ∙ sym first)
    (c.in_ok-last.ensures.number y (subst (λ o. IsAmong o y) c.in-Some-2.is j) ∙ sym last))

pub returns-in_err-first-clause-halts : goal.returns-in_err-first-clause-halts
returns-in_err-first-clause-halts c =
    handed c.from_residual-in_err-first.result c.in_err-first.field-0.0 (AreOpenAt c.args.line c.args.low.now c.args.high.now)
    c.from_residual-in_err-first.ensures.1
    (low_open c.args.line c.args.low.now c.args.high.now c.in_ok-a.field-0 c.in-Some.a c.in_err-first.field-0.0 c.in_ok-a.ensures.number
    c.in-Some.is c.in_err-first.ensures.halts)

pub returns-in_err-last-clause-halts : goal.returns-in_err-last-clause-halts
returns-in_err-last-clause-halts c =
    handed c.from_residual-in_err-last.result c.in_err-last.field-0.0 (AreOpenAt c.args.line c.args.low.now c.args.high.now)
    c.from_residual-in_err-last.ensures.1
    (high_open c.args.line c.args.low.now c.args.high.now c.in_ok-b.field-0 c.in-Some-2.b c.in_err-last.field-0.0 c.in_ok-b.ensures.number
    c.in-Some-2.is c.in_err-last.ensures.halts)
