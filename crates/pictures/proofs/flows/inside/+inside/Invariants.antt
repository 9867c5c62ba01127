use Rattle.std.proofs.Common.{◌≡◌, ◌++◌, drop}
use Rattle.pictures.specs.Flows.Subscripts.{steps_at}
use Rattle.pictures.proofs.flows.inside.+inside.Given as goal

-- with those of the statements that are left
abbrev pub invariant-add_steps-loop-s : goal.invariant-add_steps-loop-s
invariant-add_steps-loop-s l =
    l.all.items ++ steps_at l.offset (drop l.s-index l.s-items) ≡ l.fn.all.items ++ steps_at l.offset l.body.items
