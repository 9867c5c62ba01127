-- The text of a sweep: a line a size, and how time and work grow.
use Rattle.std.specs.Prelude.{ℕ, ◌||◌, if◌then◌else◌, List, [], ◌∷◌, ◌++◌, Option, Some, None, codes, decimal}
use Rattle.sweeps.specs.GrowthText.{growth_text, is_told}
use Rattle.sweeps.specs.declared.growths.Growths.{Growths}
use Rattle.sweeps.specs.declared.size_row.Counts.{Counts}
use Rattle.sweeps.specs.declared.size_row.Ending.{Ending}
use Rattle.sweeps.specs.declared.size_row.Ending.TheVariants.{Ended, GoesOn, Faulted, Refused}
use Rattle.sweeps.specs.declared.size_row.SizeRow.{SizeRow}

-- `n 8`
abbrev pub size_text : List ℕ → ℕ → List ℕ
size_text name size = name ++ (codes " " ++ decimal size)

-- ` time 17 work 28 width 8 reads 23 writes 15`
abbrev pub counts_text : Counts → List ℕ
counts_text c =
    codes " time " ++ (decimal c.time ++ (codes " work " ++ (decimal c.work ++ (codes " width " ++ (decimal c.width
    ++ (codes " reads " ++ (decimal c.reads ++ (codes " writes " ++ decimal c.writes))))))))

-- ` exchanges at most 15`, and ` words at most 25` where they are told
abbrev pub most_text : ℕ → Option ℕ → List ℕ → List ℕ
most_text most None how = codes " exchanges at most " ++ (decimal most ++ how)
most_text most (Some words) how =
    codes " exchanges at most " ++ (decimal most ++ (codes " words at most " ++ (decimal words ++ how)))

-- of a run without a fault also the most exchanges that it takes, and words
abbrev pub run_text : Counts → List ℕ → List ℕ
run_text c how = counts_text c ++ most_text c.most_exchanges c.most_words how

abbrev pub refusal_text : List ℕ → List ℕ
refusal_text refusal = codes " " ++ (refusal ++ codes "\n")

-- of one with a fault the fault
abbrev pub fault_text : Counts → List ℕ → List ℕ
fault_text c fault = counts_text c ++ refusal_text fault

-- what stands behind the size on its line
abbrev pub ending_text : Ending → List ℕ
ending_text (Ended c) = run_text c (codes " ended\n")
ending_text (GoesOn c) = run_text c (codes " goes on\n")
ending_text (Faulted c fault) = fault_text c fault.items
ending_text (Refused refusal) = refusal_text refusal.items

-- `n 8 time 17 work 28 width 8 reads 23 writes 15 exchanges at most 15 ended`
abbrev pub row_text : List ℕ → SizeRow → List ℕ
row_text name row = size_text name row.size ++ ending_text row.ending

abbrev pub rows_text : List ℕ → List SizeRow → List ℕ
rows_text name [] = []
rows_text name (row ∷ rows) = row_text name row ++ rows_text name rows

-- what stands over formulas, where there are any
abbrev pub heading_text : Growths → List ℕ
heading_text g = if is_told g.time || is_told g.work then codes "at these sizes\n" else []

-- the formulas of time and of work
abbrev pub formulas_text : List ℕ → Growths → List ℕ
formulas_text name g = growth_text (codes "time") name g.time ++ growth_text (codes "work") name g.work

abbrev pub growths_text : List ℕ → Growths → List ℕ
growths_text name g = heading_text g ++ formulas_text name g

abbrev pub sweep_text : List ℕ → List SizeRow → Growths → List ℕ
sweep_text name rows g = rows_text name rows ++ growths_text name g
