use Rattle.std.proofs.Common.{◌≡◌, ◌-◌, length, vec_capacity}
use Rattle.worker_bank.proofs.level.lengthen.Given as goal

abbrev pub invariant-loop-list : goal.invariant-loop-list
invariant-loop-list l = record { room : vec_capacity l.list ≡ vec_capacity l.fn.list }

abbrev pub decreases-loop-list : goal.decreases-loop-list
decreases-loop-list l = l.count - length l.list.items
