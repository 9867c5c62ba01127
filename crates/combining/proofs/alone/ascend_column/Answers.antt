use Rattle.std.proofs.Common.{◌≤◌, ◌<◌, ◌+◌, ◌^◌, ℕ, List, length, get_or, ap, subst}
use Rattle.combining.specs.Alone.{cells_put, AscendTo}
use Rattle.combining.proofs.OnlyPuts.{ascend_next}
use Rattle.combining.proofs.alone.ascend_column.Goals as goal

pub loop-rest-preserved : goal.loop-rest-preserved
loop-rest-preserved g c m j k h =
    let rule = g.R.WriteRule.rule c.args.rule.now in
    let ws = c.loop-rest.rest.now in
    let size = c.put_length-size.result in
    let first = get_or c.split_at.result.0.now 0 0 in
    let long : size ≤ length ws = c.loop-rest-test.true in
    let up : c.loop-rest.least ≤ first = c.if-first-least.false in
    let small : first < 2 ^ 20 = c.if-first-ge-CELLS.false in
    c.loop-rest.invariant m j k
    (ascend_next rule m j ws size c.loop-rest.least first k c.put_length-size.ensures.size long
    (ap (λ (x : List ℕ). get_or x 0 0) c.split_at.ensures.front) up small
    (subst (λ (x : List ℕ). AscendTo (first + 1) (cells_put rule m j x) k) c.split_at.ensures.back h))
