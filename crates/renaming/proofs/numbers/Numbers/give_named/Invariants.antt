use Rattle.renaming.specs.Numbers.{HaveNumbers}
use Rattle.renaming.specs.Named.{named}
use Rattle.renaming.proofs.Numbered.{IsAmongBelow}
use Rattle.renaming.proofs.numbers.Numbers.give_named.Given as goal

abbrev pub invariant-loop-k : goal.invariant-loop-k
invariant-loop-k l = HaveNumbers (λ r. IsAmongBelow l.k r (named l.fn.side l.fn.instr)) l.fn.self l.self
