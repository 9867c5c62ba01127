-- What JSON says of what is found of two programs on the same inputs.
use Rattle.std.specs.Prelude.{ℕ, ◌-◌, nat_lt, if◌then◌else◌, ℤ, List, [], ◌∷◌, ◌++◌, Option, Some, None, codes, length, map}
use Rattle.serde_json.specs.Data.{Data}
use Rattle.json_texts.specs.Facts.{Field, large, letters, object_of, value, values, word}
use Rattle.pram_check.specs.Checked.{Checked}
use Rattle.pram_model.specs.Layout.{SharedEntry}
use Rattle.program_texts.specs.Shown.{cell_text}
use Rattle.comparing.specs.Found.{Differing, Found}
use Rattle.comparing.specs.declared.difference.Difference.{Difference}
use Rattle.comparing.specs.declared.difference.Difference.TheVariants as differ
use Rattle.comparing.specs.declared.difference.Ending.{Ending}
use Rattle.comparing.specs.declared.difference.Ending.TheVariants as ending
use Rattle.json_texts.specs.ExplorationFacts.{asked_fields, cells_fields}
use Rattle.json_texts.specs.OutcomeFacts.{fault_fields}

-- a value, where there is one
abbrev pub value_fields : List ℕ → Option ℤ → List Field
value_fields name None = []
value_fields name (Some v) = (name, value v) ∷ []

-- that of the first program, and that of the second
abbrev pub both_fields : Option ℤ → Option ℤ → List Field
both_fields x y = value_fields (codes "first") x ++ value_fields (codes "second") y

-- how a run came out, without its values
abbrev pub ending_fields : List SharedEntry → Ending → List Field
ending_fields layout ending.Ended = (codes "outcome", word (codes "ended")) ∷ []
ending_fields layout (ending.Faulted fault) = (codes "outcome", word (codes "fault")) ∷ fault_fields layout fault
ending_fields layout ending.GoesOn = (codes "outcome", word (codes "goes on")) ∷ []

abbrev pub ending_facts : List SharedEntry → Ending → Data
ending_facts layout e = object_of (ending_fields layout e)

-- more than the limit
abbrev pub excess_fields : List ℕ → (taken limit : ℕ) → List Field
excess_fields what taken limit =
    (codes "differs", word what) ∷ (codes "taken", large taken) ∷ (codes "limit", large limit) ∷ []

-- how the two runs came out
abbrev pub endings_fields : List SharedEntry → Ending → List SharedEntry → Ending → List Field
endings_fields first e second f =
    (codes "differs", word (codes "outcome")) ∷ (codes "first", ending_facts first e) ∷ (codes "second", ending_facts second f) ∷ []

-- an output item, counted from 1
abbrev pub output_fields : (item : ℕ) → Option ℤ → Option ℤ → List Field
output_fields item x y = (codes "differs", word (codes "output")) ∷ (codes "item", large item) ∷ both_fields x y

-- a cell, by its name
abbrev pub cell_fields : List SharedEntry → (cell : ℕ) → Option ℤ → Option ℤ → List Field
cell_fields first cell x y =
    (codes "differs", word (codes "cell")) ∷ (codes "cell", letters (cell_text first cell)) ∷ both_fields x y

-- what differs
abbrev pub difference_fields : (first second : List SharedEntry) → Difference → List Field
difference_fields first second (differ.Endings e f) = endings_fields first e second f
difference_fields first second (differ.Output item x y) = output_fields item x y
difference_fields first second (differ.Cell cell x y) = cell_fields first cell x y
difference_fields first second (differ.Time taken limit) = excess_fields (codes "time") taken limit
difference_fields first second (differ.Work taken limit) = excess_fields (codes "work") taken limit

-- an input on which they differ, and what differs on it
abbrev pub differing_fields : (first second : List SharedEntry) → Differing → List Field
differing_fields first second d = (codes "input", values d.input) ∷ difference_fields first second d.difference

abbrev pub differing_facts : (first second : List SharedEntry) → Differing → Data
differing_facts first second d = object_of (differing_fields first second d)

-- of those that are told the first
abbrev pub first_fields : (first second : List SharedEntry) → List Differing → List Field
first_fields first second [] = []
first_fields first second (d ∷ told) = differing_fields first second d

-- how many are told, where they differ on more
abbrev pub told_fields : Found → List Field
told_fields f = if nat_lt (length f.told) (f.counting - f.same) then (codes "told", large (length f.told)) ∷ [] else []

abbrev pub found_fields : (first second : List SharedEntry) → Found → List Field
found_fields first second f = told_fields f ++ first_fields first second f.told

-- how many inputs count, where there is a precondition, and how many cells are drawn
abbrev pub head_fields : Option Checked → (cells : Option ℕ) → Found → List Field
head_fields w cells f = asked_fields (codes "counting") w f.counting ++ cells_fields cells

-- how many inputs there are, on how many that count both come to the same, and these
abbrev pub pair_fields : (first second : List SharedEntry) → Option Checked → (cells : Option ℕ) → Found → List Field
pair_fields first second w cells f =
    (codes "inputs", large f.inputs) ∷ (codes "same", large f.same) ∷ (head_fields w cells f ++ found_fields first second f)

abbrev pub whole_facts : (first second : List SharedEntry) → Option Checked → (cells : Option ℕ) → Found → Data
whole_facts first second w cells f = object_of (pair_fields first second w cells f)

-- a line for each input that is told, and one for the whole
abbrev pub pair_facts : (first second : List SharedEntry) → Option Checked → (cells : Option ℕ) → Found → List Data
pair_facts first second w cells f = map (differing_facts first second) f.told ++ whole_facts first second w cells f ∷ []
