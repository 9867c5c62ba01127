-- How it is written what differs between two programs, with their names.
use Rattle.std.specs.Prelude.{ℕ, ℤ, List, ◌++◌, Option, codes}
use Rattle.pram_model.specs.Layout.{SharedEntry}
use Rattle.program_texts.specs.Shown.{cell_text}
use Rattle.text_places.specs.Escaped.{escaped}
use Rattle.comparing.specs.declared.difference.Difference.{Difference}
use Rattle.comparing.specs.declared.difference.Difference.TheVariants as differ
use Rattle.comparing.specs.declared.difference.Ending.{Ending}
use Rattle.comparing.specs.ComparisonText.{ending_text, excess_text, item_text, value_text}

-- ` in owed.pram`
abbrev pub place_text : (name : List ℕ) → List ℕ
place_text name = codes " in " ++ escaped name

abbrev pub value_in : Option ℤ → (name : List ℕ) → List ℕ
value_in x name = value_text x ++ place_text name

-- `4 in owed.pram, 2 in hard.pram`, of the second program first
abbrev pub values_in : (first_name second_name : List ℕ) → Option ℤ → Option ℤ → List ℕ
values_in first_name second_name x y = value_in y second_name ++ (codes ", " ++ value_in x first_name)

abbrev pub ending_in : List SharedEntry → Ending → (name : List ℕ) → List ℕ
ending_in layout e name = ending_text layout e ++ place_text name

-- `goes on in owed.pram, ended in hard.pram`
abbrev pub endings_in : (first_name second_name : List ℕ) → (first second : List SharedEntry) → Ending → Ending → List ℕ
endings_in first_name second_name first second e f = ending_in second f second_name ++ (codes ", " ++ ending_in first e first_name)

-- `output item 1 is 4 in owed.pram, 2 in hard.pram`
abbrev pub output_in : (first_name second_name : List ℕ) → (item : ℕ) → Option ℤ → Option ℤ → List ℕ
output_in first_name second_name item x y = item_text item ++ values_in first_name second_name x y

-- `a[4] is 0 in owed.pram, 7 in hard.pram`
abbrev pub cell_in : (first_name second_name : List ℕ) → List SharedEntry → (cell : ℕ) → Option ℤ → Option ℤ → List ℕ
cell_in first_name second_name first cell x y = cell_text first cell ++ (codes " is " ++ values_in first_name second_name x y)

abbrev pub whose_text : (first_name second_name : List ℕ) → (first second : List SharedEntry) → Difference → List ℕ
whose_text p q first second (differ.Endings e f) = endings_in p q first second e f
whose_text p q first second (differ.Output item x y) = output_in p q item x y
whose_text p q first second (differ.Cell cell x y) = cell_in p q first cell x y
whose_text p q first second (differ.Time taken limit) = excess_text (codes "time ") taken limit
whose_text p q first second (differ.Work taken limit) = excess_text (codes "work ") taken limit
