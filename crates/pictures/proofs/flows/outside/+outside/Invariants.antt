use Rattle.std.proofs.Common.{◌≡◌, ◌++◌, drop}
use Rattle.pictures.specs.Flows.Subscripts.{statements_at}
use Rattle.pictures.proofs.flows.outside.+outside.Given as goal

-- with those of the statements that are left
abbrev pub invariant-add_statements-loop-s : goal.invariant-add_statements-loop-s
invariant-add_statements-loop-s l =
    l.all.items ++ statements_at l.offset (drop l.s-index l.s-items) ≡ l.fn.all.items ++ statements_at l.offset l.body.items
