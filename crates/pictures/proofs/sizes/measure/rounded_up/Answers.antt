use Rattle.std.proofs.Common.{◌∙◌, ◌<◌, ◌≤◌, ◌*◌, arith, sym}
use Rattle.pictures.proofs.OfSizes.Rounds.{first_at, later_at, over, second_at, third_at}
use Rattle.pictures.proofs.sizes.measure.rounded_up.Goals as goal

pub returns-then-from-unit-clause-rounded : goal.returns-then-from-unit-clause-rounded
returns-then-from-unit-clause-rounded c =
    let n = c.args.number in
    let unit = c.from-unit.result in
    let same = c.from.ensures in
    let test = c.if-from-unit.true in
    let below : n ≤ unit = omega (arith, same, test) in
    sym (c.loop-unit.invariant ∙ first_at c.loop-unit.unit-index n unit c.loop-unit-test.true c.from-unit.ensures below)

pub returns-then-from-unit-2-clause-rounded : goal.returns-then-from-unit-2-clause-rounded
returns-then-from-unit-2-clause-rounded c =
    let n = c.args.number in
    let unit = c.from-unit.result in
    let same = c.from.ensures in
    let again = c.from-in-loop-unit.ensures in
    let no = c.if-from-unit.false in
    let test = c.if-from-unit-2.true in
    let above : unit < n = omega (arith, same, no) in
    let below : n ≤ 2 * unit = omega (arith, again, test) in
    sym (c.loop-unit.invariant ∙ second_at c.loop-unit.unit-index n unit c.loop-unit-test.true c.from-unit.ensures above below)

pub returns-then-from-unit-3-clause-rounded : goal.returns-then-from-unit-3-clause-rounded
returns-then-from-unit-3-clause-rounded c =
    let n = c.args.number in
    let unit = c.from-unit.result in
    let again = c.from-in-loop-unit.ensures in
    let last = c.from-in-loop-unit-2.ensures in
    let no = c.if-from-unit-2.false in
    let test = c.if-from-unit-3.true in
    let above : 2 * unit < n = omega (arith, again, no) in
    let below : n ≤ 5 * unit = omega (arith, last, test) in
    sym (c.loop-unit.invariant ∙ third_at c.loop-unit.unit-index n unit c.loop-unit-test.true c.from-unit.ensures above below)

pub loop-unit-preserved : goal.loop-unit-preserved
loop-unit-preserved c =
    let n = c.args.number in
    let unit = c.from-unit.result in
    let last = c.from-in-loop-unit-2.ensures in
    let no = c.if-from-unit-3.false in
    let above : 5 * unit < n = omega (arith, last, no) in
    c.loop-unit.invariant ∙ later_at c.loop-unit.unit-index n unit c.loop-unit-test.true c.from-unit.ensures above

pub returns-clause-rounded : goal.returns-clause-rounded
returns-clause-rounded c =
    c.from-2.ensures ∙ sym (c.loop-unit.invariant ∙ over c.loop-unit.unit-index c.args.number c.loop-unit-test.false)
