use Rattle.std.proofs.Common.{take}
use Rattle.std.specs.List.{AllByRecursion}
use Rattle.superstep_instructions.specs.Limits.{IsInstr}
use Rattle.lowering.proofs.finish.all_fit.Given as goal

-- those so far
abbrev pub invariant-loop-instr : goal.invariant-loop-instr
invariant-loop-instr l = AllByRecursion IsInstr (take l.instr-index l.instructions)
