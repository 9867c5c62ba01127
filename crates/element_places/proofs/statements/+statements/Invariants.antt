use Rattle.std.proofs.Common.{◌≡◌, ◌++◌, drop}
use Rattle.element_places.specs.Elements.{block_elements}
use Rattle.element_places.proofs.statements.+statements.Given as goal

-- with those of the statements that are left
abbrev pub invariant-add_block-loop-s : goal.invariant-add_block-loop-s
invariant-add_block-loop-s l =
    l.all.items ++ block_elements l.word l.at (drop l.s-index l.body) ≡ l.fn.all.items ++ block_elements l.word l.at l.body
