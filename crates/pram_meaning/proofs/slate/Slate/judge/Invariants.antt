use Rattle.pram_meaning.proofs.Gathers.{InJudge}
use Rattle.pram_meaning.proofs.slate.Slate.judge.Given as goal

abbrev pub invariant-loop-access : goal.invariant-loop-access
invariant-loop-access l = InJudge l.fn.rule l.all l.access-index l.said.items
