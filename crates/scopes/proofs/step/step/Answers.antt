use Rattle.std.proofs.Common.{◌≡◌, ◌-◌, suc, pos, ◌<ℤ◌, ◌≤ℤ◌, get_or, arith}
use Rattle.std.proofs.lemmas.Int.{ints, to_z-of_z}
use mir.Syntax.{w64}
use Rattle.scopes.proofs.Steps.{cast, grown, grown_within, more_fits, plain, swept_all, swept_on, there_fits}
use Rattle.scopes.proofs.step.step.Goals as goal

pub returns-then-input-at-clause-within : goal.returns-then-input-at-clause-within
returns-then-input-at-clause-within c =
    let low = c.args.low in
    let high = c.args.high in
    let xs = c.args.input.now in
    let ys = c.loop-at.input in
    let b = c.loop-at.at - 1 in
    let swept = plain low high xs ys c.loop-at.at c.ranges.low c.ranges.high c.loop-at.invariant in
    let is : c.loop-at.at ≡ suc b = omega arith in
    let fits = there_fits low high (pos 0) xs ys c.loop-at.at b c.ranges.low c.ranges.high is swept c.requires.within in
    let x = get_or ys b (pos 0) in
    let lt : x <ℤ high = omega (arith, ints) in
    grown_within low high (pos 0) _ xs ys c.loop-at.at b is swept c.requires.filled lt
    (more_fits x high fits c.ranges.high lt) c.requires.within

pub returns-then-input-at-clause-next : goal.returns-then-input-at-clause-next
returns-then-input-at-clause-next c = λ so.
    let low = c.args.low in
    let high = c.args.high in
    let xs = c.args.input.now in
    let ys = c.loop-at.input in
    let b = c.loop-at.at - 1 in
    let swept = plain low high xs ys c.loop-at.at c.ranges.low c.ranges.high c.loop-at.invariant in
    let is : c.loop-at.at ≡ suc b = omega arith in
    let fits = there_fits low high (pos 0) xs ys c.loop-at.at b c.ranges.low c.ranges.high is swept c.requires.within in
    let x = get_or ys b (pos 0) in
    let lt : x <ℤ high = omega (arith, ints) in
    grown low high (pos 0) _ xs ys c.loop-at.at b is swept c.requires.filled lt (more_fits x high fits c.ranges.high lt)

pub loop-at-preserved : goal.loop-at-preserved
loop-at-preserved c =
    let low = c.args.low in
    let high = c.args.high in
    let xs = c.args.input.now in
    let ys = c.loop-at.input in
    let b = c.loop-at.at - 1 in
    let swept = plain low high xs ys c.loop-at.at c.ranges.low c.ranges.high c.loop-at.invariant in
    let is : c.loop-at.at ≡ suc b = omega arith in
    let fits = there_fits low high (pos 0) xs ys c.loop-at.at b c.ranges.low c.ranges.high is swept c.requires.within in
    let ge : high ≤ℤ get_or ys b (pos 0) = omega (arith, ints) in
    cast low high xs _ b c.ranges.low c.ranges.high
    (rw (to_z-of_z w64 low c.ranges.low) (swept_on low high (pos 0) xs ys c.loop-at.at b is swept ge c.requires.within))

pub returns-clause-last : goal.returns-clause-last
returns-clause-last c = λ so.
    let low = c.args.low in
    let high = c.args.high in
    let xs = c.args.input.now in
    swept_all low high xs c.loop-at.input c.loop-at.at (omega arith)
    (plain low high xs c.loop-at.input c.loop-at.at c.ranges.low c.ranges.high c.loop-at.invariant)
