use Rattle.std.proofs.Common.{◌≡◌, None, take}
use Rattle.pram_names.specs.Breaches.{block_breaches, inside_of, first}
use Rattle.pram_names.specs.Resolved.{SaySteps}
use Rattle.pram_check.proofs.step.+step.Given as goal

-- the steps so far say the statements so far, in which nothing is wrong
abbrev pub invariant-steps-loop-statement : goal.invariant-steps-loop-statement
invariant-steps-loop-statement l = record {
  says : SaySteps l.fn.scope (take l.statement-index l.body) l.found.items;
  none : first (block_breaches (take l.statement-index l.body) (inside_of l.fn.scope)) ≡ None;
}
