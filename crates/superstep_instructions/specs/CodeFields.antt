-- How the fields of code show what it says.
use Rattle.superstep_instructions.specs.declared.code.Code.TheInside.{Inside}
use Rattle.superstep_instructions.specs.Code.{SuperstepCode}

abbrev pub shown : Inside → SuperstepCode
shown c = record {
  rule = c.rule;
  procs = c.procs;
  layout = c.layout;
  uniform_registers = c.uniform_registers;
  private_registers = c.private_registers;
  instructions = c.instructions.items;
}
