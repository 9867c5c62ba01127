use Rattle.std.proofs.Common.{◌≡◌, ◌∙◌, ap, false, not, sym, true}
use Rattle.comparing.specs.declared.unequal.Beside.{Beside}
use Rattle.comparing.specs.Unequal.{beside, is_unequal}
use Rattle.comparing.proofs.Unequals.{equal_here, none_left, unequal_here}
use Rattle.comparing.proofs.unequal.first_unequal.Goals as goal

pub returns-then-not-is_same-clause-unequal : goal.returns-then-not-is_same-clause-unequal
returns-then-not-is_same-clause-unequal c =
    let xs = c.args.first.now in
    let ys = c.args.second.now in
    let k = c.loop-place.place in
    let b : Beside = record { place = k; first = c.value_at-one.result; second = c.value_at-other.result } in
    let is : beside xs c.args.first_start ys c.args.second_start k ≡ b =
    λ i. record { place = k; first = (sym c.value_at-one.ensures) i; second = (sym c.value_at-other.ensures) i } in
    let differs : is_unequal b ≡ true = ap not (sym c.is_same.ensures ∙ c.if-not-is_same.true) in
    sym (unequal_here xs c.args.first_start ys c.args.second_start k c.args.count b c.loop-place-test.true is differs)
    ∙ c.loop-place.invariant

pub loop-place-preserved : goal.loop-place-preserved
loop-place-preserved c =
    let xs = c.args.first.now in
    let ys = c.args.second.now in
    let k = c.loop-place.place in
    let b : Beside = record { place = k; first = c.value_at-one.result; second = c.value_at-other.result } in
    let is : beside xs c.args.first_start ys c.args.second_start k ≡ b =
    λ i. record { place = k; first = (sym c.value_at-one.ensures) i; second = (sym c.value_at-other.ensures) i } in
    let same : is_unequal b ≡ false = ap not (sym c.is_same.ensures ∙ c.if-not-is_same.false) in
    sym (equal_here xs c.args.first_start ys c.args.second_start k c.args.count b c.loop-place-test.true is same)
    ∙ c.loop-place.invariant

pub returns-clause-unequal : goal.returns-clause-unequal
returns-clause-unequal c =
    sym (none_left c.args.first.now c.args.first_start c.args.second.now c.args.second_start c.loop-place.place c.args.count
    c.loop-place-test.false)
    ∙ c.loop-place.invariant
