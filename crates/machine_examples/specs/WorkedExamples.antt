-- Code with loops, masks, sums and votes.
use Rattle.std.specs.Prelude.{[], ◌∷◌, pos, codes}
use Rattle.pram_model.specs.declared.rule.Rule.TheVariants.{Erew, Crew, Sum}
use Rattle.superstep_instructions.specs.declared.instr.Arithmetic.TheVariants.{Add, Subtract, Multiply}
use Rattle.superstep_instructions.specs.declared.instr.Truth.TheVariants.{Less}
use Rattle.superstep_instructions.specs.declared.instr.Side.TheVariants.{Uniform, Private}
use Rattle.superstep_instructions.specs.declared.instr.Instr.TheVariants.{Mark, Set, Copy, Calculate, Decide, CopyUniform, Index, Enter}
use Rattle.superstep_instructions.specs.declared.instr.Instr.TheVariants.{Leave}
use Rattle.superstep_instructions.specs.declared.instr.Instr.TheVariants.{Mask, Flip, Unmask, Ask, Put, Send, Reply, Vote, Print, Jump}
use Rattle.superstep_instructions.specs.declared.instr.Instr.TheVariants.{JumpIfZero}
use Rattle.superstep_instructions.specs.declared.instr.Instr.TheVariants.{Halt}
use Rattle.superstep_instructions.specs.Code.{SuperstepCode}
use Rattle.machine_examples.specs.Examples.{cell, array}

-- Three turns, in each of which every processor adds its index to a register of its own and that register to its cell.
abbrev pub three_turns : SuperstepCode
three_turns = record {
  rule = Crew;
  procs = 2;
  layout = array (codes "a") 1 2 ∷ [];
  uniform_registers = 4;
  private_registers = 3;
  instructions =
      Mark 4
      ∷ Set Uniform 0 (pos 1)
      ∷ Set Uniform 1 (pos 2)
      ∷ Set Uniform 2 (pos 3)
      ∷ Mark 5
      ∷ Enter 0 1 1
      ∷ Index 0
      ∷ Calculate Private Add 1 1 0 1
      ∷ Ask Private 2 0 0 2
      ∷ Send
      ∷ Reply
      ∷ Calculate Private Add 2 2 1 3
      ∷ Put Private 0 0 2 4
      ∷ Leave
      ∷ Send
      ∷ Set Uniform 3 (pos 1)
      ∷ Calculate Uniform Subtract 2 2 3 1
      ∷ JumpIfZero 2 19
      ∷ Jump 4
      ∷ Halt
      ∷ [];
}

-- b[i] := a[i] * 10 + a[3 - i]: both processors read both cells, each cell once by each read.
abbrev pub crossed_reads : SuperstepCode
crossed_reads = record {
  rule = Erew;
  procs = 2;
  layout = array (codes "a") 1 2 ∷ array (codes "b") 1 2 ∷ [];
  uniform_registers = 2;
  private_registers = 5;
  instructions =
      Mark 4
      ∷ Set Uniform 0 (pos 1)
      ∷ Set Uniform 1 (pos 2)
      ∷ Enter 0 1 1
      ∷ Mark 5
      ∷ Index 0
      ∷ Set Private 1 (pos 3)
      ∷ Calculate Private Subtract 1 1 0 1
      ∷ Ask Private 2 0 0 2
      ∷ Ask Private 3 0 1 3
      ∷ Send
      ∷ Reply
      ∷ Set Private 4 (pos 10)
      ∷ Calculate Private Multiply 2 2 4 4
      ∷ Calculate Private Add 2 2 3 5
      ∷ Put Private 1 0 2 6
      ∷ Leave
      ∷ Halt
      ∷ [];
}

-- Four processors add their indices up in one cell.
abbrev pub added_up : SuperstepCode
added_up = record {
  rule = Sum;
  procs = 4;
  layout = cell (codes "s") ∷ [];
  uniform_registers = 2;
  private_registers = 2;
  instructions =
      Mark 4
      ∷ Set Uniform 0 (pos 1)
      ∷ Set Uniform 1 (pos 4)
      ∷ Enter 0 1 1
      ∷ Mark 4
      ∷ Index 0
      ∷ Set Private 1 (pos 0)
      ∷ Put Private 0 1 0 1
      ∷ Leave
      ∷ Halt
      ∷ [];
}

-- Each processor counts down from its index to 1 in a loop of its own, and adds each number to its cell.
abbrev pub counting_down : SuperstepCode
counting_down = record {
  rule = Crew;
  procs = 4;
  layout = array (codes "a") 1 4 ∷ [];
  uniform_registers = 3;
  private_registers = 5;
  instructions =
      Mark 4
      ∷ Set Uniform 0 (pos 1)
      ∷ Set Uniform 1 (pos 4)
      ∷ Enter 0 1 1
      ∷ Mark 4
      ∷ Index 0
      ∷ Copy Private 1 0
      ∷ Mark 5
      ∷ Set Private 2 (pos 1)
      ∷ Decide Private Less 3 2 1
      ∷ Mask 3
      ∷ Vote 2
      ∷ JumpIfZero 2 24
      ∷ Mark 6
      ∷ Ask Private 4 0 0 1
      ∷ Send
      ∷ Reply
      ∷ Calculate Private Add 4 4 1 2
      ∷ Put Private 0 0 4 3
      ∷ Send
      ∷ Mark 7
      ∷ Calculate Private Subtract 1 1 2 1
      ∷ Unmask
      ∷ Jump 7
      ∷ Unmask
      ∷ Leave
      ∷ Halt
      ∷ [];
}

-- s := 6; s := s + 1; print s: all by the uniform part.
abbrev pub uniform_puts : SuperstepCode
uniform_puts = record {
  rule = Sum;
  procs = 4;
  layout = cell (codes "s") ∷ [];
  uniform_registers = 4;
  private_registers = 0;
  instructions =
      Mark 4
      ∷ Set Uniform 0 (pos 0)
      ∷ Set Uniform 1 (pos 6)
      ∷ Put Uniform 0 0 1 1
      ∷ Send
      ∷ Mark 5
      ∷ Ask Uniform 2 0 0 1
      ∷ Send
      ∷ Reply
      ∷ Set Uniform 3 (pos 1)
      ∷ Calculate Uniform Add 2 2 3 2
      ∷ Put Uniform 0 0 2 3
      ∷ Print 2
      ∷ Halt
      ∷ [];
}

-- Of four processors those with an index below 3 write 1 to their cells; of the others the one with an index below 4 writes 3, and
-- the last one 4; and both of these write 4 to other cells.
abbrev pub three_parts : SuperstepCode
three_parts = record {
  rule = Erew;
  procs = 4;
  layout = array (codes "a") 1 4 ∷ array (codes "b") 1 4 ∷ [];
  uniform_registers = 2;
  private_registers = 4;
  instructions =
      Mark 4
      ∷ Set Uniform 0 (pos 1)
      ∷ Set Uniform 1 (pos 4)
      ∷ Enter 0 1 1
      ∷ Mark 5
      ∷ Index 0
      ∷ Set Private 1 (pos 3)
      ∷ Decide Private Less 2 0 1
      ∷ Mask 2
      ∷ CopyUniform 3 0
      ∷ Put Private 0 0 3 1
      ∷ Set Private 3 (pos 5)
      ∷ Send
      ∷ Flip
      ∷ Mark 6
      ∷ Set Private 1 (pos 4)
      ∷ Decide Private Less 2 0 1
      ∷ Mask 2
      ∷ Set Private 3 (pos 3)
      ∷ Put Private 0 0 3 2
      ∷ Send
      ∷ Flip
      ∷ CopyUniform 3 1
      ∷ Put Private 0 0 3 3
      ∷ Send
      ∷ Unmask
      ∷ Put Private 1 0 1 4
      ∷ Unmask
      ∷ Leave
      ∷ Halt
      ∷ [];
}
