use Rattle.std.proofs.Common.{take}
use Rattle.std.specs.List.{AllByRecursion}
use Rattle.pram_names.specs.declared.body.Link.{Link}
use Rattle.abstract_runs.specs.Alike.{IsAlike}
use Rattle.abstract_runs.proofs.alike.+is_alike.Given as goal

-- the operands so far are alike
abbrev pub invariant-loop-link : goal.invariant-loop-link
invariant-loop-link l = AllByRecursion (λ (link : Link). IsAlike link.operand) (take l.link-index l.link-items)
