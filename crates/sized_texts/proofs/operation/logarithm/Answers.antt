use Rattle.std.proofs.Common.{◌∙◌}
use Rattle.sized_texts.proofs.Greatest.{log_is}
use Rattle.sized_texts.proofs.operation.logarithm.Goals as goal

pub returns : goal.returns
returns c = c.from.ensures ∙ log_is c.args.n c.ilog2.result c.ilog2.ensures.power_le c.ilog2.ensures.next_power_gt
