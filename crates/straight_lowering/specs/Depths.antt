-- What the walk over the reads of a level finds.
use Rattle.std.specs.Prelude.{ℕ, ◌+◌, nat_eq, List, [], ◌∷◌}
use Rattle.superstep_instructions.specs.declared.instr.Side.{Side}
use Rattle.superstep_instructions.specs.declared.instr.Instr.{Instr}
use Rattle.superstep_instructions.specs.declared.instr.Instr.TheVariants.{Ask}
use Rattle.plain_form.specs.Formulas.{Formula, nesting}
use Rattle.plain_form.specs.Registers.{zero_register}
use Rattle.plain_form.specs.Groups.{only}
use Rattle.straight_lowering.specs.declared.cursor.Cursor.{Cursor}
use Rattle.straight_lowering.specs.declared.reads.Depth.{Depth}
use Rattle.straight_lowering.specs.Cursors.{behind}

abbrev pub depth_of : Formula → Cursor → Depth
depth_of f at = record { nesting = nesting f; behind = behind f at }

-- of a read, from that of its subscript
abbrev pub read_depth : Depth → Depth
read_depth d = record {
  nesting = d.nesting + 1;
  behind = record { read = d.behind.read + 1; position = d.behind.position + 1 };
}

-- the ask of a single cell, if its level is asked for
abbrev pub cell_asks : Side → ℕ → ℕ → Cursor → List Instr
cell_asks s level entry at = only (nat_eq 0 level) (Ask s at.read entry zero_register (at.position + 1) ∷ [])
