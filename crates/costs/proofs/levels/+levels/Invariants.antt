use Rattle.std.proofs.Common.{◌≡◌, drop}
use Rattle.exchange_bound.specs.Events.{levels}
use Rattle.costs.proofs.Chains.{levels_behind}
use Rattle.costs.proofs.levels.+levels.Given as goal

-- with those of the links that are left
abbrev pub invariant-loop-link : goal.invariant-loop-link
invariant-loop-link l = levels_behind l.most (drop l.link-index l.link-items) ≡ levels l.e
