use Rattle.std.proofs.Common.{◌≡◌, ◌+◌, ◌-◌, ◌<◌, ◌≤◌, arith, length, nat_lt, subst, sym}
use Rattle.std.proofs.lemmas.Bool.{ltb-false, ltb-true}
use Rattle.pages.specs.Cut as spec
use Rattle.pages.proofs.Tailing.{Tailing, tailing_full, tailing_line, tailing_on}
use Rattle.pages.proofs.cut.tail.Goals as goal

pub returns-then-limit-size-clause-longest : goal.returns-then-limit-size-clause-longest
returns-then-limit-size-clause-longest c =
    let found = c.loop-at.found in
    let end = length c.args.facts.now in
    let before = c.loop-at.at - 1 in
    let at : c.loop-at.at ≡ before + 1 = (let past = c.loop-at-test.true in omega (arith, past)) in
    let inside : found.at ≤ end = c.loop-at.invariant.inside in
    tailing_full c.args.facts.now before c.loop-at.size found.at found.size 0 (nat_lt found.at end)
    (subst (λ n. Tailing c.args.facts.now n c.loop-at.size found.at found.size) at c.loop-at.invariant)
    (subst (λ w. spec.limit (nat_lt found.at end) < c.loop-at.size + w) c.width-size.ensures
    (subst (λ l. l < c.loop-at.size + c.width-size.result) c.limit.ensures c.if-limit-size.true))
    (λ none. let over = ltb-false found.at end none in omega (arith, over, inside))
    (λ some. ltb-true found.at end some)

pub loop-at-preserved-then-begins_line : goal.loop-at-preserved-then-begins_line
loop-at-preserved-then-begins_line c =
    let found = c.loop-at.found in
    let end = length c.args.facts.now in
    let before = c.loop-at.at - 1 in
    let at : c.loop-at.at ≡ before + 1 = (let past = c.loop-at-test.true in omega (arith, past)) in
    let inside : found.at ≤ end = c.loop-at.invariant.inside in
    subst (λ w. Tailing c.args.facts.now before (c.loop-at.size + w) before (c.loop-at.size + w)) (sym c.width-size.ensures)
    (tailing_line c.args.facts.now before c.loop-at.size found.at found.size 0 (nat_lt found.at end)
    (subst (λ n. Tailing c.args.facts.now n c.loop-at.size found.at found.size) at c.loop-at.invariant)
    (subst (λ w. c.loop-at.size + w ≤ spec.limit (nat_lt found.at end)) c.width-size.ensures
    (subst (λ l. c.loop-at.size + c.width-size.result ≤ l) c.limit.ensures c.if-limit-size.false))
    (λ none. let over = ltb-false found.at end none in omega (arith, over, inside))
    (c.begins_line.ensures.yes c.if-begins_line.true))

pub loop-at-preserved : goal.loop-at-preserved
loop-at-preserved c =
    let found = c.loop-at.found in
    let end = length c.args.facts.now in
    let before = c.loop-at.at - 1 in
    let at : c.loop-at.at ≡ before + 1 = (let past = c.loop-at-test.true in omega (arith, past)) in
    subst (λ w. Tailing c.args.facts.now before (c.loop-at.size + w) found.at found.size) (sym c.width-size.ensures)
    (tailing_on c.args.facts.now before c.loop-at.size found.at found.size 0 (nat_lt found.at end)
    (subst (λ n. Tailing c.args.facts.now n c.loop-at.size found.at found.size) at c.loop-at.invariant)
    (subst (λ w. c.loop-at.size + w ≤ spec.limit (nat_lt found.at end)) c.width-size.ensures
    (subst (λ l. c.loop-at.size + c.width-size.result ≤ l) c.limit.ensures c.if-limit-size.false))
    (c.begins_line.ensures.no c.if-begins_line.false))
