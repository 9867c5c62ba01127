use Rattle.std.proofs.Common.{IfSome}
use Rattle.pram_model.specs.declared.rule.Rule.{Rule}
use Rattle.abstract_runs.specs.Sure.{HaveFaultBy}
use Rattle.abstract_runs.proofs.sure_faults.first_fault.Given as goal

-- the first position found is one by which there is a fault
abbrev pub invariant-loop-k : goal.invariant-loop-k
invariant-loop-k l = IfSome l.first (λ at. (rule : Rule) → HaveFaultBy rule l.fn.rows at)
