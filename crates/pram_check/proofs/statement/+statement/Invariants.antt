use Rattle.std.proofs.Common.{◌≡◌, None, take}
use Rattle.pram_names.specs.Breaches.{block_breaches, outside_of, first}
use Rattle.pram_names.specs.Resolved.{SayStatements}
use Rattle.pram_check.proofs.statement.+statement.Given as goal

-- the statements so far are said, in which nothing is wrong
abbrev pub invariant-statements-loop-x : goal.invariant-statements-loop-x
invariant-statements-loop-x l = record {
  scope : l.scope ≡ l.fn.scope;
  says : SayStatements l.fn.scope (take l.x-index l.body) l.found.items;
  none : first (block_breaches (take l.x-index l.body) (outside_of l.fn.scope l.fn.loops)) ≡ None;
}
