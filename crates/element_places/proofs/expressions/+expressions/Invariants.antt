use Rattle.std.proofs.Common.{◌≡◌, ◌++◌, drop}
use Rattle.element_places.specs.Elements.{link_elements}
use Rattle.element_places.proofs.expressions.+expressions.Given as goal

-- with those of the operands that are left
abbrev pub invariant-add_links-loop-operand : goal.invariant-add_links-loop-operand
invariant-add_links-loop-operand l =
    l.all.items ++ link_elements l.word (drop l.operand-index l.rest) ≡ l.fn.all.items ++ link_elements l.word l.rest
