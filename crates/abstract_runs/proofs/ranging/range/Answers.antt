use Rattle.std.proofs.Common.{rules, ◌≡◌, ℤ, ℕ, IsSomeAnd, ◌∙◌, sym, subst, to_z, of_z, w64}
use Rattle.pram_model.specs.Layout.{width}
use Rattle.pram_meaning.specs.Attempt.{ranged}
use Rattle.abstract_runs.specs.Tried.{IsTried}
use Rattle.abstract_runs.proofs.Bounding.{pair_is}
use Rattle.abstract_runs.proofs.Choosing.{pair_as}
use Rattle.abstract_runs.proofs.Ranged.{range_tried}
use Rattle.abstract_runs.proofs.ranging.range.Goals as goal

pub returns-clause-tried : goal.returns-clause-tried
returns-clause-tried c = λ s shows.
    let first : to_z w64 (of_z w64 c.in-Some.first) ≡ c.in-Some.first = search rules in
    let last : to_z w64 (of_z w64 c.in-Some.last) ≡ c.in-Some.last = search rules in
    range_tried (λ (p : ℤ × ℤ). IsSomeAnd c.in_ok-first.field-0 (λ (q : ℤ × ℤ). p ≡ (q.0, q.1)))
    (λ (p : ℤ × ℕ). IsSomeAnd c.in_ok-found.found (λ (q : ℤ × ℕ). p ≡ (q.0, q.1))) c.args.procs c.bounds.new.trail.items c.ranged.new.trail.items
    c.bounds.new.faults c.ranged.new.faults c.in_ok-found.ensures.longer c.in_ok-found.ensures.kept
    (λ t r p g. subst (λ (r : ℤ × ℤ). IsTried (λ (p : ℤ × ℕ). IsSomeAnd c.in_ok-found.found (λ (q : ℤ × ℕ). p ≡ (q.0, q.1)))
    c.ranged.new.trail.items c.ranged.new.faults (ranged c.args.procs r.0 (width r.0 r.1) t))
    (pair_is first last ∙ sym (pair_as c.in_ok-first.field-0 (c.in-Some.first, c.in-Some.last) r c.in-Some.is p)) (c.in_ok-found.ensures.tried t g))
    s c.args.low.now c.args.high.now (c.in_ok-first.ensures.tried s shows)
