use Rattle.std.proofs.Common.{◌≡◌, ◌++◌, None, take}
use Rattle.pram_names.specs.Scope as names
use Rattle.pram_names.specs.Breaches.{local_breaches, first}
use Rattle.pram_names.proofs.range.declare_locals.Given as goal

-- the locals so far are in scope, and nothing is wrong with them
abbrev pub invariant-loop-x : goal.invariant-loop-x
invariant-loop-x l = record {
  count : l.count ≡ l.x-index;
  scope : l.scope ≡ l.initial.scope ++ names.locals_from 0 (take l.x-index l.locals);
  none : first (local_breaches l.initial.scope 0 (take l.x-index l.locals)) ≡ None;
}
