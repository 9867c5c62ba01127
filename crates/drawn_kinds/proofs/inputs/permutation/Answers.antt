use Rattle.std.proofs.Common.{◌∙◌, ap}
use Rattle.std.proofs.lemmas.Result.{IfOk-weaker}
use Rattle.drawn_kinds.specs.Kinds.{IsPermuted, nodes}
use Rattle.drawn_kinds.proofs.Distinct.{permuted}
use Rattle.drawn_kinds.proofs.inputs.permutation.Goals as goal

pub returns-clause-permuted : goal.returns-clause-permuted
returns-clause-permuted c =
    IfOk-weaker c.nodes.result _ (λ found. IsPermuted found.items)
    (λ found is. permuted c.args.count c.in_ok-order.order.items found.items c.in_ok-order.ensures.permutation
    (is ∙ ap (nodes 1) c.deref.ensures.value))
    c.nodes.ensures
