-- Worked code of three stretches: two registers are set, a loop counts one of them down, and it is printed.
use Rattle.std.specs.Prelude.{List, [], ◌∷◌, ◌++◌, pos}
use Rattle.pram_model.specs.declared.rule.Rule.TheVariants.{Crew}
use Rattle.superstep_instructions.specs.declared.instr.Arithmetic.TheVariants.{Subtract}
use Rattle.superstep_instructions.specs.declared.instr.Side.TheVariants.{Uniform}
use Rattle.superstep_instructions.specs.declared.instr.Instr.{Instr}
use Rattle.superstep_instructions.specs.declared.instr.Instr.TheVariants.{Mark, Set, Calculate, Print, Jump, JumpIfZero, Halt}
use Rattle.superstep_instructions.specs.Code.{SuperstepCode}

abbrev pub settings : List Instr
settings = Set Uniform 0 (pos 3) ∷ Set Uniform 1 (pos 1) ∷ []

-- from place 2 on: behind the last turn it goes to place 6
abbrev pub turns : List Instr
turns = Mark 1 ∷ JumpIfZero 0 6 ∷ Calculate Uniform Subtract 0 0 1 1 ∷ Jump 2 ∷ []

abbrev pub ending : List Instr
ending = Mark 2 ∷ Print 0 ∷ Halt ∷ []

abbrev pub counting : SuperstepCode
counting = record {
  rule = Crew;
  procs = 1;
  layout = [];
  uniform_registers = 2;
  private_registers = 0;
  instructions = settings ++ (turns ++ ending);
}
