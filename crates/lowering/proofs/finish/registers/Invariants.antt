use Rattle.std.proofs.Common.{◌≡◌, ◌≤◌, max, drop}
use Rattle.superstep_instructions.specs.Limits.{most_registers}
use Rattle.plain_form.specs.Registers as spec
use Rattle.lowering.proofs.finish.registers.Given as goal

-- with those of the rest
abbrev pub invariant-loop-instr : goal.invariant-loop-instr
invariant-loop-instr l = record {
  all : spec.registers l.side l.instructions ≡ max l.most (spec.registers l.side (drop l.instr-index l.instructions));
  few : l.most ≤ most_registers;
}
