use Rattle.std.proofs.Common.{◌≡◌, ◌++◌, drop}
use Rattle.pictures.specs.Flows.Subscripts.{statements_at}
use Rattle.pictures.proofs.flows.outside.add_body.Given as goal

-- with those of the statements that are left
abbrev pub invariant-loop-s : goal.invariant-loop-s
invariant-loop-s l = l.all.items ++ statements_at l.offset (drop l.s-index l.fn.body) ≡ l.fn.all.items ++ statements_at l.offset l.fn.body
