use Rattle.std.proofs.Common.{◌≡◌, ◌∙◌, ℤ, ap, arith, drop, get_or, pos, rules, sym, to_z, of_z, w64, FitsSigned}
use Rattle.std.specs.Ordering.{int_eq}
use Rattle.std.proofs.lemmas.Int.{to_z-of_z}
use Rattle.std.proofs.lemmas.List.{at_drop_all}
use Rattle.pictures.specs.Steps.Drawn.{place_of}
use Rattle.pictures.proofs.OfSteps.RowTexts.{is_further}
use Rattle.pictures.proofs.steps.rows.place_of.Goals as goal

pub loop-at-preserved : goal.loop-at-preserved
loop-at-preserved c =
    let x : ℤ = get_or c.args.rows.now c.loop-at.at (pos 0) in
    let i : ℤ = to_z w64 (of_z w64 c.args.index) in
    let fits : FitsSigned w64 x = search rules in
    let is : c.is_same.result ≡ int_eq x i = c.is_same.ensures ∙ (λ k. int_eq (to_z-of_z w64 x fits k) i) in
    let further = is_further c.args.rows.now i c.loop-at.at c.loop-at-test.true (sym is ∙ c.if-not-is_same.true) in
    let so_far = c.loop-at.invariant.is in
    let test = c.loop-at-test.true in
    record { is = omega (arith, further, so_far); within = omega (arith, test) }

pub returns-after-loop-at-clause-value : goal.returns-after-loop-at-clause-value
returns-after-loop-at-clause-value c =
    let i : ℤ = to_z w64 (of_z w64 c.args.index) in
    let so_far = c.loop-at.invariant.is in
    let over : place_of (drop c.loop-at.at c.args.rows.now) i ≡ 0 = at_drop_all (λ xs. place_of xs i) c.args.rows.now c.loop-at.at
    c.loop-at-test.false in
    let found : c.loop-at.at ≡ place_of c.args.rows.now i = omega (arith, so_far, over) in
    found ∙ ap (place_of c.args.rows.now) (to_z-of_z w64 c.args.index c.ranges.index)
