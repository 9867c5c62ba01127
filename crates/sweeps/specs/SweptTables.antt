-- The numbers of a sweep by their sizes, and what is told of them.
use Rattle.std.specs.Prelude.{◌≡◌, ℕ, ℤ, List, [], ◌∷◌, Option, Some, None, FitsSigned}
use Rattle.std.specs.Int.{w128}
use Rattle.sweeps.specs.declared.row.Row.{Row}
use Rattle.sweeps.specs.declared.growth.Growth.{Growth}
use Rattle.sweeps.specs.declared.growth.Growth.TheVariants.{Nothing}
use Rattle.sweeps.specs.Tables.{GrowsBy, IsSo}
use Rattle.sweeps.specs.declared.measure.Measure.{Measure}
use Rattle.sweeps.specs.declared.measure.Measure.TheVariants.{Time, Work}
use Rattle.sweeps.specs.declared.size_row.Counts.{Counts}
use Rattle.sweeps.specs.declared.size_row.Ending.{Ending}
use Rattle.sweeps.specs.declared.size_row.Ending.TheVariants.{Ended, GoesOn, Faulted, Refused}
use Rattle.sweeps.specs.declared.size_row.SizeRow.{SizeRow}

abbrev pub number : Measure → Counts → ℕ
number Time counts = counts.time
number Work counts = counts.work

abbrev pub row_of : Measure → ℕ → Ending → Option Row
row_of m size (Ended counts) = Some (record { size = size; number = number m counts })
row_of m size (GoesOn counts) = None
row_of m size (Faulted counts text) = None
row_of m size (Refused text) = None

-- the number of a run that ended, by its size
abbrev pub ended_row : Measure → SizeRow → Option Row
ended_row m row = row_of m row.size row.ending

-- a row in front of a table, where both are there
abbrev pub in_front : Option Row → Option (List Row) → Option (List Row)
in_front None table = None
in_front (Some row) None = None
in_front (Some row) (Some rows) = Some (row ∷ rows)

-- the number at each size, where each run ended
abbrev pub table : Measure → List SizeRow → Option (List Row)
table m [] = Some []
table m (row ∷ rows) = in_front (ended_row m row) (table m rows)

-- what is told of a table is so, and where nothing is told it grows by no step
pub record IsTold (growth : Growth) (rows : List Row) : Type 0 where
  pub so : IsSo growth rows
  pub nothing : growth ≡ Nothing → (step : ℤ) → FitsSigned w128 step → ¬ GrowsBy step rows

-- where there is no table, nothing is told
abbrev pub IsToldOf : Growth → Option (List Row) → Type 0
IsToldOf growth None = growth ≡ Nothing
IsToldOf growth (Some rows) = IsTold growth rows
