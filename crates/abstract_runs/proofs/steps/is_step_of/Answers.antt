use Rattle.std.proofs.Common.{rules, ◌≡◌, get_or, length}
use Rattle.abstract_runs.proofs.Operands.{compared}
use Rattle.abstract_runs.proofs.steps.is_step_of.Goals as goal

pub returns : goal.returns
returns c = λ yes s z h.
    let one : length c.in-Chain.links.items ≡ 1 = search rules in
    let at : c.index-link.result.now ≡ get_or c.in-Chain.links.items 0 c.index-link.result.now = search rules in
    let w = compared s c.args.e.now c.deref.result.now c.in-Chain.first c.in-Chain.links c.in-Chain.links.items c.index-link.result.now z
    c.in-Chain.is c.deref.ensures (λ i. c.in-Chain.links.items) one at h in
    c.is_step_by.ensures yes s w.left w.right z w.left_is w.right_is w.gives
