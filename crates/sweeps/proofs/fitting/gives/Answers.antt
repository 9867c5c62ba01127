use Rattle.sweeps.proofs.Rows.{gives_is}
use Rattle.sweeps.proofs.fitting.gives.Goals as goal

pub returns-then-has_value : goal.returns-then-has_value
returns-then-has_value c =
    gives_is c.args.formula.now c.args.row.now c.of_row.result c.of_formula.result c.sum-sum.result c.is_zero.result
    (c.has_value.ensures.0 c.if-has_value.true) c.of_row.ensures.sum c.of_formula.ensures.entries c.sum-sum.ensures.value c.is_zero.ensures
