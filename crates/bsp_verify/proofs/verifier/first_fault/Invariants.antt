use Rattle.bsp_verify.specs.Table.{IsTable}
use Rattle.bsp_verify.proofs.verifier.first_fault.Given as goal

abbrev pub invariant-loop-at : goal.invariant-loop-at
invariant-loop-at l = IsTable l.code l.at l.table.items
