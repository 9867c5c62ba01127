use Rattle.std.proofs.Common.{◌∙◌, ap}
use Rattle.pictures.specs.Flows.Values.{value_at}
use Rattle.pictures.proofs.OfFlows.CellValues.{with_zero}
use Rattle.pictures.proofs.flows.values.put_zeros.Goals as goal

pub loop-values-preserved : goal.loop-values-preserved
loop-values-preserved c k =
    ap (λ xs. value_at xs k) c.in_ok-push.ensures.items ∙ with_zero c.loop-values.values.items k ∙ c.loop-values.invariant k
