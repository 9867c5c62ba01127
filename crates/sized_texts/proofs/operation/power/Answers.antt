use Rattle.std.proofs.Common.{arith, ap, sym, ◌∙◌}
use Rattle.sized_texts.specs.Values.{checked}
use Rattle.sized_texts.proofs.Powers.{small_power, one_checked, large_power, too_large}
use Rattle.sized_texts.proofs.operation.power.Goals as goal

pub returns-else-b-eq0 : goal.returns-else-b-eq0
returns-else-b-eq0 c = one_checked c.args.a (omega arith) ∙ ap checked (sym (small_power c.args.a c.args.b (omega arith) (omega arith)))

pub returns-then-b-ge64 : goal.returns-then-b-ge64
returns-then-b-ge64 c = too_large _ (large_power c.args.a c.args.b (omega arith) (omega arith))
