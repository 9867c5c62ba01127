-- Code that grows.
use Rattle.std.specs.Prelude.{ℕ, Bool, List, ◌++◌, slice_set}
use Rattle.superstep_instructions.specs.declared.instr.Instr.{Instr}

-- the instructions so far, and whether a write is held behind them
pub record Written : Type 0 where
  pub instructions : List Instr
  pub held : Bool

-- these instructions more, and whether a write is held behind them
abbrev pub wrote : List Instr → Bool → Written → Written
wrote is held w = record { instructions = w.instructions ++ is; held = held }

-- these instructions more, which hold and send nothing
abbrev pub added : List Instr → Written → Written
added is w = wrote is w.held w

-- another instruction in one place
abbrev pub patched : ℕ → Instr → Written → Written
patched place instr w = record w { instructions = slice_set w.instructions place instr }
