use Rattle.pram_meaning.proofs.Gathers.{InSettle}
use Rattle.pram_meaning.proofs.slate.Slate.settle.Given as goal

abbrev pub invariant-loop-group : goal.invariant-loop-group
invariant-loop-group l = InSettle l.rule l.group-items l.group-index l.verdicts.items
