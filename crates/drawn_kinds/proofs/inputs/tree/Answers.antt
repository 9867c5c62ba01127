use Rattle.std.proofs.Common.{◌∙◌, ◌-◌, ap, drop, length, subst, sym, take}
use Rattle.drawn_kinds.specs.Orders.{IsOrder}
use Rattle.drawn_kinds.specs.Kinds.{IsTree, parents_by}
use Rattle.drawn_kinds.proofs.Rooted.{both_ok, rooted}
use Rattle.drawn_kinds.proofs.inputs.tree.Goals as goal

pub returns-clause-tree : goal.returns-clause-tree
returns-clause-tree c =
    let links = c.saturating_sub-links.result in
    let words = take (length c.deref-3.result.now - links) (drop links c.deref-3.result.now) in
    let behind = c.in_ok-beside.ensures.parents ∙ ap (parents_by words) c.deref-2.ensures.value in
    both_ok c.placed.result _ _ (λ found. IsTree found.items)
    (λ found follows count. rooted words c.in_ok-order.order.items found.items c.in_ok-beside.ensures.fit
    (subst (λ n. IsOrder n c.in_ok-order.order.items)
    (sym (count ∙ ap length c.deref-4.ensures.value ∙ c.in_ok-order.ensures.count)) c.in_ok-order.ensures.permutation)
    (rw (c.deref-4.ensures.value, c.deref-5.ensures.value, behind) at follows))
    c.placed.ensures.follows c.placed.ensures.count
