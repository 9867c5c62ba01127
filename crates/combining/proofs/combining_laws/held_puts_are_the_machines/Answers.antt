use Rattle.std.proofs.Common.{[]}
use Rattle.combining.proofs.MachinePuts.{held_is_machines}
use Rattle.combining.proofs.HeldFits.{held_fits}
use Rattle.combining.proofs.combining_laws.held_puts_are_the_machines.Goals as goal

pub returns : goal.returns
returns c = record {
  held = held_is_machines;
  worker = λ rule s. held_is_machines rule s.held;
  fit = λ rule writes fits. held_fits rule writes [] fits tt;
}
