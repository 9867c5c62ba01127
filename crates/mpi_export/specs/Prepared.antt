-- How loops and plans are written down.
use Rattle.std.specs.Prelude.{◌≡◌, ℕ, List, Bool, false, slice_index_or, take}
use Rattle.superstep_instructions.specs.Code.{SuperstepCode}
use Rattle.mpi_export.specs.declared.loops.Loop as written
use Rattle.mpi_export.specs.declared.row.Row.{Row}
use Rattle.mpi_export.specs.Loops.{Loop, has_index, is_taken_over, rows_of}

abbrev pub loop_of : written.Loop → Loop
loop_of l = record { is_open = l.is_open; set = take l.count l.set.items }

abbrev pub flag_of : List Bool → ℕ → Bool
flag_of flags k = slice_index_or flags k false

-- The rows of code, a flag for each register that is taken over, and whether register 1 is the processor's index.
pub record IsPrepared (code : SuperstepCode) (rows : List Row) (columns : List Bool) (index : Bool) : Type 0 where
  pub are_rows : rows ≡ rows_of code
  pub are_columns : (r : ℕ) → flag_of columns r ≡ is_taken_over code r
  pub is_index : index ≡ has_index code
