use Rattle.std.proofs.Common.{◌+◌, ap, arith}
use Rattle.prepared_division.proofs.Factors.{factor_fits, power_divided}
use Rattle.prepared_division.proofs.divisor.factor_for.Goals as goal

pub overflow_cast-result : goal.overflow_cast-result
overflow_cast-result c =
    let is = power_divided c.args.shift c.args.divisor c.from.result c.requires.few c.from.ensures in
    let fits = factor_fits c.args.divisor c.args.shift c.requires.least c.requires.few c.requires.close in
    omega (arith, is, fits)

pub overflow_add-result : goal.overflow_add-result
overflow_add-result c =
    let is = power_divided c.args.shift c.args.divisor c.from.result c.requires.few c.from.ensures in
    let fits = factor_fits c.args.divisor c.args.shift c.requires.least c.requires.few c.requires.close in
    omega (arith, is, fits)

pub returns : goal.returns
returns c = ap (λ n. n + 1) (power_divided c.args.shift c.args.divisor c.from.result c.requires.few c.from.ensures)
