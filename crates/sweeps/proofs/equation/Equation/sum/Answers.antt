use Rattle.std.proofs.Common.{◌≡◌, ◌∙◌, ◌+◌, ◌+ℤ◌, ◌*ℤ◌, ℕ, ap, arith, suc}
use Rattle.sweeps.specs.Equations.{dot, entry, entry_at}
use Rattle.sweeps.specs.Wides.{integer}
use Rattle.sweeps.specs.declared.equation.Equation.{Equation}
use Rattle.sweeps.specs.declared.wide.Wide.{Wide}
use Rattle.sweeps.proofs.Linear.{next_minus, next_plus, room_minus, room_plus, with_product_value}
use Rattle.sweeps.proofs.equation.Equation.sum.Goals as goal

pub with_product-sum-requires-clause-plus : goal.with_product-sum-requires-clause-plus
with_product-sum-requires-clause-plus c =
    let i = c.loop-i.i in
    room_plus c.loop-i.sum (entry_at c.args.self.now i) (entry_at c.args.other.now i) i (c.requires.mine i c.loop-i-test.true)
    (c.requires.other i c.loop-i-test.true) c.loop-i-test.true c.loop-i.invariant.1 c.loop-i.invariant.2

pub with_product-sum-requires-clause-minus : goal.with_product-sum-requires-clause-minus
with_product-sum-requires-clause-minus c =
    let i = c.loop-i.i in
    room_minus c.loop-i.sum (entry_at c.args.self.now i) (entry_at c.args.other.now i) i (c.requires.mine i c.loop-i-test.true)
    (c.requires.other i c.loop-i-test.true) c.loop-i-test.true c.loop-i.invariant.1 c.loop-i.invariant.2

value : (x y : Equation) (i : ℕ) (sum to : Wide) → integer sum ≡ dot i (entry x) (entry y) →
    integer to ≡ integer sum +ℤ (integer (entry_at x i) *ℤ integer (entry_at y i)) → integer to ≡ dot (i + 1) (entry x) (entry y)
unfolding entry
value x y i sum to before is =
    let e : suc i ≡ i + 1 = omega arith in
    is ∙ ap (λ s. s +ℤ (integer (entry_at x i) *ℤ integer (entry_at y i))) before ∙ ap (λ n. dot n (entry x) (entry y)) e

pub loop-i-preserved : goal.loop-i-preserved
loop-i-preserved c =
    let i = c.loop-i.i in
    let a = entry_at c.args.self.now i in
    let b = entry_at c.args.other.now i in
    let to = c.with_product-sum.result in
    let x = next_plus c.loop-i.sum a b i (c.requires.mine i c.loop-i-test.true) (c.requires.other i c.loop-i-test.true) c.loop-i-test.true
    c.loop-i.invariant.1 c.loop-i.invariant.2 in
    let y = next_minus c.loop-i.sum a b i (c.requires.mine i c.loop-i-test.true) (c.requires.other i c.loop-i-test.true) c.loop-i-test.true
    c.loop-i.invariant.1 c.loop-i.invariant.2 in
    let p = c.with_product-sum.ensures.plus in
    let m = c.with_product-sum.ensures.minus in (
      value c.args.self.now c.args.other.now i c.loop-i.sum to c.loop-i.invariant.0 (with_product_value c.loop-i.sum a b to p m),
      omega (arith, x, p),
      omega (arith, y, m),
    )
