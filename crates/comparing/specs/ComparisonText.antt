-- How a comparison is written.
use Rattle.std.specs.Prelude.{ℕ, ℤ, List, [], ◌∷◌, ◌++◌, Option, Some, None, codes, decimal}
use Rattle.std.specs.Fmt.{signed_decimal}
use Rattle.pram_check.specs.Checked.{Checked}
use Rattle.pram_model.specs.Layout.{SharedEntry}
use Rattle.program_texts.specs.Shown.{cell_text, fault_text, spaced}
use Rattle.comparing.specs.declared.difference.Difference.{Difference}
use Rattle.comparing.specs.declared.difference.Difference.TheVariants as differ
use Rattle.comparing.specs.declared.difference.Ending.{Ending}
use Rattle.comparing.specs.declared.difference.Ending.TheVariants as ending
use Rattle.comparing.specs.Found.{Differing, Found}

-- ---- what differs

-- an output has no item behind its last
abbrev pub value_text : Option ℤ → List ℕ
value_text None = codes "missing"
value_text (Some value) = signed_decimal value

-- `3, and 2`
abbrev pub values_text : Option ℤ → Option ℤ → List ℕ
values_text x y = value_text x ++ (codes ", and " ++ value_text y)

abbrev pub ending_text : List SharedEntry → Ending → List ℕ
ending_text layout ending.Ended = codes "ended"
ending_text layout (ending.Faulted fault) = fault_text layout fault
ending_text layout ending.GoesOn = codes "goes on"

-- `ended, and fault overflow all line 9`, where the cells of each program have its own names
abbrev pub endings_text : List SharedEntry → Ending → List SharedEntry → Ending → List ℕ
endings_text first e second f = ending_text first e ++ (codes ", and " ++ ending_text second f)

-- `output item 1 is `
abbrev pub item_text : (item : ℕ) → List ℕ
item_text item = codes "output item " ++ (decimal item ++ codes " is ")

-- `output item 1 is 3, and 2`
abbrev pub output_text : (item : ℕ) → Option ℤ → Option ℤ → List ℕ
output_text item x y = item_text item ++ values_text x y

-- `a[4] is 7, and 0`
abbrev pub unequal_cell_text : List SharedEntry → (cell : ℕ) → Option ℤ → Option ℤ → List ℕ
unequal_cell_text first cell x y = cell_text first cell ++ (codes " is " ++ values_text x y)

-- `time 43 above 40`
abbrev pub excess_text : List ℕ → (taken limit : ℕ) → List ℕ
excess_text words taken limit = words ++ (decimal taken ++ (codes " above " ++ decimal limit))

abbrev pub difference_text : (first second : List SharedEntry) → Difference → List ℕ
difference_text first second (differ.Endings e f) = endings_text first e second f
difference_text first second (differ.Output item x y) = output_text item x y
difference_text first second (differ.Cell cell x y) = unequal_cell_text first cell x y
difference_text first second (differ.Time taken limit) = excess_text (codes "time ") taken limit
difference_text first second (differ.Work taken limit) = excess_text (codes "work ") taken limit

-- ---- all that is found

-- `inputs 625 same 624`
abbrev pub all_counts : Found → List ℕ
all_counts f = codes "inputs " ++ (decimal f.inputs ++ (codes " same " ++ (decimal f.same ++ codes "\n")))

-- `inputs 625 counting 24 same 20`
abbrev pub some_counts : Found → List ℕ
some_counts f =
    codes "inputs " ++ (decimal f.inputs ++ (codes " counting " ++ (decimal f.counting ++ (codes " same " ++ (decimal f.same
    ++ codes "\n")))))

-- the second with a precondition, and else the first
abbrev pub counts_line : Option Checked → Found → List ℕ
counts_line None f = all_counts f
counts_line (Some w) f = some_counts f

-- `cells 8`, how many are drawn, where inputs are
abbrev pub cells_line : Option ℕ → List ℕ
cells_line None = []
cells_line (Some count) = codes "cells " ++ (decimal count ++ codes "\n")

-- `input 2 1: output item 1 is 3, and 2`
abbrev pub differing_line : (first second : List SharedEntry) → Differing → List ℕ
differing_line first second d =
    codes "input" ++ (spaced d.input ++ (codes ": " ++ (difference_text first second d.difference ++ codes "\n")))

-- of those that are told the first
abbrev pub first_line : (first second : List SharedEntry) → List Differing → List ℕ
first_line first second [] = []
first_line first second (d ∷ told) = differing_line first second d

-- how many inputs there are and on how many both come to the same; how many cells are drawn; and the first input on which they don't, if
-- there is one
abbrev pub comparison_text : (first second : List SharedEntry) → Option Checked → (cells : Option ℕ) → Found → List ℕ
comparison_text first second w cells f = counts_line w f ++ (cells_line cells ++ first_line first second f.told)
