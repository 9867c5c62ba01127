use Rattle.std.proofs.Common.{rules, ◌≡◌, ◌∙◌, ◌*◌, ◌^◌, ◌+ℤ◌, ℕ, pos, ap, arith, sym}
use Rattle.std.proofs.lemmas.Int.{ints}
use mir.Syntax.{w64}
use mir.Val.{SFits}
use Rattle.scopes.proofs.Counts.{at_least, choices, inputs_are, many, none_are}
use Rattle.scopes.proofs.counting.input_count.Goals as goal

pub returns-then-from-wide-clause-some : goal.returns-then-from-wide-clause-some
returns-then-from-wide-clause-some c =
    let s = c.args.scope in
    let n = c.width-wide.result in
    let low : SFits w64 s.low = search rules in
    let high : SFits w64 s.high = search rules in
    let wide : s.high +ℤ pos 1 ≡ s.low +ℤ pos n = omega (arith, ints, c.width-wide.ensures.wide) in
    none_are s n c.if-scope.true wide (omega (arith, c.from.ensures))

pub returns-then-product-from-clause-none : goal.returns-then-product-from-clause-none
returns-then-product-from-clause-none c =
    let s = c.args.scope in
    let n = c.width-wide.result in
    let k = c.loop-place.place in
    let low : SFits w64 s.low = search rules in
    let high : SFits w64 s.high = search rules in
    let wide : s.high +ℤ pos 1 ≡ s.low +ℤ pos n = omega (arith, ints, c.width-wide.ensures.wide) in
    let so_far : c.loop-place.product * c.choices-product.result ≡ many s.apart n k * choices s.apart n k =
    ap (λ (m : ℕ). m * c.choices-product.result) c.loop-place.invariant.so_far
    ∙ ap (λ (m : ℕ). many s.apart n k * m) c.choices-product.ensures in
    let more = c.if-product-from.true in
    let most = c.from-in-loop-place.ensures in
    at_least s n k (2 ^ 64) wide c.width-wide.ensures.one c.loop-place-test.true c.loop-place.invariant.room
    (omega (arith, so_far, more, most))

pub returns-clause-some : goal.returns-clause-some
returns-clause-some c =
    let s = c.args.scope in
    let n = c.width-wide.result in
    let low : SFits w64 s.low = search rules in
    let high : SFits w64 s.high = search rules in
    let wide : s.high +ℤ pos 1 ≡ s.low +ℤ pos n = omega (arith, ints, c.width-wide.ensures.wide) in
    let all : s.count ≡ c.loop-place.place = omega arith in
    inputs_are s n wide ∙ ap (many s.apart n) all ∙ sym c.loop-place.invariant.so_far
