use Rattle.std.proofs.Common.{◌≡◌, ◌≤◌, ◌*◌, ◌^◌, ◌%◌, arith}
use Rattle.std.proofs.Math.Pow.{pow_mono}
use Rattle.run_options.proofs.Powers.{least_at}
use Rattle.run_options.proofs.place_count.places.Goals as goal

pub returns-then-power-cells-clause-least : goal.returns-then-power-cells-clause-least
returns-then-power-cells-clause-least c =
    let below : c.powers.bits ≤ 20 = omega arith in
    let small = pow_mono below in
    let is : (1 * 2 ^ c.powers.bits) % 4294967296 ≡ 2 ^ c.powers.bits = omega (arith, small) in
    least_at c.args.cells _ c.powers.bits is c.if-power-cells.true c.powers.invariant.below

pub returns-clause-least : goal.returns-clause-least
returns-clause-least c =
    let few = c.requires in
    let is : 1048576 ≡ 2 ^ 20 = cc in
    let enough : c.args.cells ≤ 1048576 = omega (arith, few) in
    least_at c.args.cells 1048576 20 is enough (λ e l. c.powers.invariant.below e (let end = c.powers-test.false in omega (arith, l, end)))
