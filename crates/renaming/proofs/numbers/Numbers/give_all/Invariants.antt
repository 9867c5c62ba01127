use Rattle.renaming.specs.Numbers.{HaveNumbers}
use Rattle.renaming.proofs.Numbered.{IsNamedBelow}
use Rattle.renaming.proofs.numbers.Numbers.give_all.Given as goal

abbrev pub invariant-loop-k : goal.invariant-loop-k
invariant-loop-k l = HaveNumbers (IsNamedBelow l.k l.side l.instructions) l.fn.self l.self
