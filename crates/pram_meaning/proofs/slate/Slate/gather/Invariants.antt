use Rattle.pram_meaning.proofs.Gathers.{InGather}
use Rattle.pram_meaning.proofs.slate.Slate.gather.Given as goal

abbrev pub invariant-loop-access : goal.invariant-loop-access
invariant-loop-access l = InGather l.all l.access-index l.self
