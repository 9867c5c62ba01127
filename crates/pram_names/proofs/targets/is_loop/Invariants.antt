use Rattle.std.proofs.Common.{◌≡◌, drop, nat_eq}
use Rattle.std.specs.List.{list_any}
use Rattle.pram_names.proofs.targets.is_loop.Given as goal

-- what is left tells what the whole tells
abbrev pub invariant-loop-variable : goal.invariant-loop-variable
invariant-loop-variable l = list_any (nat_eq l.k) l.loops ≡ list_any (nat_eq l.k) (drop l.variable-index l.loops)
