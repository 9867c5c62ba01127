-- Code that faults.
use Rattle.std.specs.Prelude.{[], ◌∷◌, pos, codes}
use Rattle.pram_model.specs.declared.rule.Rule.TheVariants.{Crew, Common}
use Rattle.superstep_instructions.specs.declared.instr.Arithmetic.TheVariants.{Add, Subtract, Divide}
use Rattle.superstep_instructions.specs.declared.instr.Side.TheVariants.{Uniform, Private}
use Rattle.superstep_instructions.specs.declared.instr.Instr.TheVariants.{Mark, Set, Calculate, Index, Enter, Leave, Ask, Put, Send, Reply}
use Rattle.superstep_instructions.specs.declared.instr.Instr.TheVariants.{Print}
use Rattle.superstep_instructions.specs.declared.instr.Instr.TheVariants.{Halt}
use Rattle.superstep_instructions.specs.Code.{SuperstepCode}
use Rattle.machine_examples.specs.Examples.{cell, array}

-- Two processors write one cell, one of them divides by zero in the next statement, and both read the cell in the one after it.
-- The write travels with the read's ask.
abbrev pub late_conflict : SuperstepCode
late_conflict = record {
  rule = Common;
  procs = 2;
  layout = cell (codes "s") ∷ [];
  uniform_registers = 2;
  private_registers = 4;
  instructions =
      Mark 4
      ∷ Set Uniform 0 (pos 1)
      ∷ Set Uniform 1 (pos 2)
      ∷ Enter 0 1 1
      ∷ Mark 5
      ∷ Index 0
      ∷ Set Private 1 (pos 0)
      ∷ Put Private 0 1 0 1
      ∷ Mark 6
      ∷ Set Private 2 (pos 1)
      ∷ Calculate Private Subtract 3 0 2 1
      ∷ Calculate Private Divide 3 2 3 2
      ∷ Mark 7
      ∷ Ask Private 3 0 1 1
      ∷ Send
      ∷ Reply
      ∷ Leave
      ∷ Halt
      ∷ [];
}

-- r := a[a[i]] + a[1 div (i - 2)], with both inner reads in one exchange: of the faults the one of least position is noted last.
abbrev pub two_levels : SuperstepCode
two_levels = record {
  rule = Crew;
  procs = 2;
  layout = array (codes "a") 1 2 ∷ [];
  uniform_registers = 2;
  private_registers = 6;
  instructions =
      Mark 4
      ∷ Set Uniform 0 (pos 1)
      ∷ Set Uniform 1 (pos 2)
      ∷ Enter 0 1 1
      ∷ Mark 4
      ∷ Index 0
      ∷ Set Private 1 (pos 1)
      ∷ Set Private 2 (pos 2)
      ∷ Calculate Private Subtract 3 0 2 3
      ∷ Calculate Private Divide 3 1 3 4
      ∷ Ask Private 4 0 0 1
      ∷ Ask Private 5 0 3 5
      ∷ Send
      ∷ Reply
      ∷ Ask Private 4 0 4 2
      ∷ Send
      ∷ Reply
      ∷ Calculate Private Add 4 4 5 6
      ∷ Leave
      ∷ Halt
      ∷ [];
}

-- A read out of range, whose register then divides itself, before any exchange.
abbrev pub zero_at_once : SuperstepCode
zero_at_once = record {
  rule = Crew;
  procs = 1;
  layout = array (codes "a") 0 0 ∷ [];
  uniform_registers = 2;
  private_registers = 0;
  instructions =
      Set Uniform 0 (pos 5)
      ∷ Set Uniform 1 (pos 1)
      ∷ Ask Uniform 1 0 0 3
      ∷ Calculate Uniform Divide 0 1 1 1
      ∷ Send
      ∷ Reply
      ∷ Halt
      ∷ [];
}

-- A read out of range, whose register is set again before the exchange, and then divides itself.
abbrev pub out_of_range : SuperstepCode
out_of_range = record {
  rule = Crew;
  procs = 1;
  layout = array (codes "a") 0 0 ∷ [];
  uniform_registers = 2;
  private_registers = 0;
  instructions =
      Set Uniform 0 (pos 5)
      ∷ Ask Uniform 1 0 0 3
      ∷ Set Uniform 1 (pos 1)
      ∷ Send
      ∷ Reply
      ∷ Calculate Uniform Divide 0 1 1 1
      ∷ Halt
      ∷ [];
}

-- A statement that prints, one that prints after a division by zero, and one more that prints.
abbrev pub late_output : SuperstepCode
late_output = record {
  rule = Crew;
  procs = 1;
  layout = [];
  uniform_registers = 2;
  private_registers = 0;
  instructions =
      Mark 1
      ∷ Set Uniform 0 (pos 4)
      ∷ Print 0
      ∷ Mark 2
      ∷ Calculate Uniform Divide 1 0 1 1
      ∷ Print 1
      ∷ Mark 3
      ∷ Print 0
      ∷ Halt
      ∷ [];
}
