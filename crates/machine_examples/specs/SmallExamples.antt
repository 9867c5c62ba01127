-- Short code, each for one thing that a wrong machine gets wrong.
use Rattle.std.specs.Prelude.{ℕ, List, [], ◌∷◌, pos, codes}
use Rattle.pram_model.specs.declared.rule.Rule.TheVariants.{Crew}
use Rattle.pram_model.specs.Layout.{SharedEntry}
use Rattle.superstep_instructions.specs.declared.instr.Arithmetic.TheVariants.{Divide}
use Rattle.superstep_instructions.specs.declared.instr.Truth.TheVariants.{Equal}
use Rattle.superstep_instructions.specs.declared.instr.Side.TheVariants.{Uniform, Private}
use Rattle.superstep_instructions.specs.declared.instr.Instr.{Instr}
use Rattle.superstep_instructions.specs.declared.instr.Instr.TheVariants.{Mark, Set, Calculate, Decide, Enter, Leave, Mask, Unmask, Ask}
use Rattle.superstep_instructions.specs.declared.instr.Instr.TheVariants.{Put, Send}
use Rattle.superstep_instructions.specs.declared.instr.Instr.TheVariants.{Reply, Vote, Print, Halt}
use Rattle.superstep_instructions.specs.Code.{SuperstepCode}
use Rattle.machine_examples.specs.Examples.{cell, array}

-- code for at most so many processors, with three registers on each side
abbrev pub short : ℕ → List SharedEntry → List Instr → SuperstepCode
short procs layout instructions =
    record { rule = Crew; procs = procs; layout = layout; uniform_registers = 3; private_registers = 3; instructions = instructions }

-- A processor that isn't active divides by zero.
abbrev pub inactive_division : SuperstepCode
inactive_division = short 1 [] (Mark 1 ∷ Enter 0 0 1 ∷ Mask 0 ∷ Calculate Private Divide 1 1 1 2 ∷ Unmask ∷ Leave ∷ Mark 2 ∷ Halt ∷ [])

-- Two processors, where there may be one, write a cell each.
abbrev pub wide_writes : SuperstepCode
wide_writes = short 1 (array (codes "a") 0 1 ∷ []) (Mark 1 ∷ Set Uniform 1 (pos 1) ∷ Enter 0 1 1 ∷ Put Private 0 0 1 2 ∷ Leave ∷ Halt ∷ [])

-- A vote behind the end of a range, which no verified code has.
abbrev pub vote_behind : SuperstepCode
vote_behind = short 1 [] (Mark 1 ∷ Enter 0 0 1 ∷ Leave ∷ Vote 1 ∷ Print 1 ∷ Halt ∷ [])

-- A range within a range, which no verified code has: a register that was 5 is written to a cell.
abbrev pub second_range : SuperstepCode
second_range = short 1 (cell (codes "s") ∷ []) (Mark 1 ∷ Enter 0 0 1 ∷ Set Private 1 (pos 5) ∷ Enter 0 0 2 ∷ Put Private 0 0 1 3 ∷ Leave
    ∷ Halt ∷ [])

-- A division by zero, and a send in the next statement.
abbrev pub send_behind_fault : SuperstepCode
send_behind_fault = short 1 [] (Mark 1 ∷ Calculate Uniform Divide 0 0 0 1 ∷ Mark 2 ∷ Send ∷ Halt ∷ [])

-- A division by zero, and a vote in the next statement.
abbrev pub vote_behind_fault : SuperstepCode
vote_behind_fault = short 1 [] (Mark 1 ∷ Enter 0 0 1 ∷ Calculate Private Divide 1 1 1 1 ∷ Mark 2 ∷ Vote 0 ∷ Leave ∷ Halt ∷ [])

-- A division by zero, and a vote in the same statement.
abbrev pub vote_beside_fault : SuperstepCode
vote_beside_fault = short 1 [] (Mark 1 ∷ Enter 0 0 1 ∷ Calculate Private Divide 1 1 1 1 ∷ Vote 0 ∷ Leave ∷ Halt ∷ [])

-- Two processors write 3 to one cell, at position 5, and read it before the verdict: where it isn't 7 they divide by zero, at position 1.
abbrev pub conflict_read : SuperstepCode
conflict_read =
    short 2 (cell (codes "s") ∷ [])
    (Mark 1
    ∷ Set Uniform 1 (pos 1)
    ∷ Enter 0 1 1
    ∷ Set Private 1 (pos 3)
    ∷ Put Private 0 0 1 5
    ∷ Send
    ∷ Ask Private 2 0 0 6
    ∷ Send
    ∷ Reply
    ∷ Set Private 1 (pos 7)
    ∷ Decide Private Equal 2 2 1
    ∷ Calculate Private Divide 1 1 2 1
    ∷ Leave
    ∷ Mark 2
    ∷ Halt
    ∷ [])
