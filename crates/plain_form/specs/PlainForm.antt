-- The code of a program.
use Rattle.std.specs.Prelude.{Bool, false, List, [], ◌∷◌, ◌++◌}
use Rattle.superstep_instructions.specs.declared.instr.Side.TheVariants.{Uniform, Private}
use Rattle.superstep_instructions.specs.declared.instr.Instr.{Instr}
use Rattle.superstep_instructions.specs.declared.instr.Instr.TheVariants.{Halt}
use Rattle.superstep_instructions.specs.Code.{SuperstepCode}
use Rattle.pram_check.specs.Checked.{Checked}
use Rattle.plain_form.specs.Registers.{behind_variables, registers}
use Rattle.plain_form.specs.Outside.{statements_code}

-- its body, and the end, where the close of the run sends a write that is held
abbrev pub instructions_of : Bool → Checked → List Instr
instructions_of keep p = statements_code keep (behind_variables p.uniforms) 0 false p.body ++ Halt ∷ []

-- there are no more registers than the instructions name
abbrev pub form_of : Bool → Checked → SuperstepCode
form_of keep p =
    let is = instructions_of keep p in
    record {
      rule = p.rule;
      procs = p.procs;
      layout = p.layout;
      uniform_registers = registers Uniform is;
      private_registers = registers Private is;
      instructions = is;
    }
