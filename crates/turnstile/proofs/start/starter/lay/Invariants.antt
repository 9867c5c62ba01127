use Rattle.std.proofs.Common.{◌≡◌, ◌-◌, ◌++◌, map, take, drop, Some}
use Rattle.turnstile.specs.Lines.{bare, slots_of}
use Rattle.turnstile.proofs.start.starter.lay.Given as goal

abbrev pub invariant-loop-k : goal.invariant-loop-k
invariant-loop-k g l = (l.chair.table_id ≡ l.initial.chair.table_id) × (l.chair.id ≡ l.initial.chair.id)
    × (l.chair.me.0 ≡ l.initial.chair.me.0)
    × (l.items.items ≡ drop l.k l.initial.items.items)
    × (l.chair.me.1 ≡ bare l.k (l.runners - l.k) ++ slots_of 0 (map Some (take l.k l.initial.items.items)))
