use Rattle.std.proofs.Common.{◌≡◌, ◌+◌, ◌≤◌, None, take}
use Rattle.pram_names.specs.Breaches.{step_uses, use_breaches, read_count, most_reads, first}
use Rattle.pram_names.specs.Resolved.{SayLinks}
use Rattle.pram_names.proofs.resolving.+expression.Given as goal

-- the links so far say the operands so far, in which nothing is wrong
abbrev pub invariant-links-loop-operator : goal.invariant-links-loop-operator
invariant-links-loop-operator l = record {
  most : l.reads ≤ most_reads;
  says : SayLinks l.fn.scope (take l.operator-index l.rest) l.links.items;
  none : first (use_breaches l.fn.scope l.fn.reads (step_uses (take l.operator-index l.rest))) ≡ None;
  count : l.reads ≡ l.fn.reads + read_count l.fn.scope (step_uses (take l.operator-index l.rest));
}
