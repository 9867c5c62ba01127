-- How what is told of a statement is written.
use Rattle.std.specs.Prelude.{ℕ, List, [], ◌∷◌, ◌++◌, ℤ, Option, codes, decimal, length}
use Rattle.std.specs.Borrow.{Bor}
use Rattle.pram_model.specs.Layout.{SharedEntry}
use Rattle.write_rules.specs.declared.fault.Fault.{Fault}
use Rattle.program_texts.specs.Shown.{cell_text, fault_text, spaced}
use Rattle.pram_tokens.specs.declared.token.Location.{Location}
use Rattle.journal.specs.declared.change.Change.{Change}
use Rattle.journal.specs.declared.local_change.LocalChange.{LocalChange}
use Rattle.journal.specs.Entries.{Entry, Faulting, OwnLocals, Ran}
use Rattle.step_text.specs.declared.telling.Detail.{Detail}
use Rattle.step_text.specs.BesideCells.{beside_text}
use Rattle.step_text.specs.Columns.{column_text, place_text}
use Rattle.step_text.specs.OwnLocals.{own_text}
use Rattle.step_text.specs.ValueTexts.{value_text}

-- a cell's change: ` a[3] 4 -> 7`
abbrev pub change_text : List SharedEntry → Change → List ℕ
change_text layout d = codes " " ++ (cell_text layout d.cell ++ value_text d)

abbrev pub changes_text : List SharedEntry → List Change → List ℕ
changes_text layout [] = []
changes_text layout (d ∷ ds) = change_text layout d ++ changes_text layout ds

-- those that met: ` processors 1 3`, and nothing where nobody did
abbrev pub meeting_text : List ℤ → List ℕ
meeting_text [] = []
meeting_text (i ∷ is) = codes " processors" ++ spaced (i ∷ is)

-- ` processors 4`
abbrev pub count_text : ℕ → List ℕ
count_text k = codes " processors " ++ decimal k

-- `line 9 processors 4`, with columns `line 9:5 processors 4`
abbrev pub head_text : (columns : Option (Bor (List ℕ))) → Location → (processors : ℕ) → List ℕ
head_text columns here k = place_text columns here ++ count_text k

-- `line 9 processors 4 a[3] 4 -> 7 a[4] 0 -> 2`
abbrev pub ran_text : List SharedEntry → (columns : Option (Bor (List ℕ))) → Location → (processors : ℕ) → List Change → List ℕ
ran_text layout columns here k ds = head_text columns here k ++ changes_text layout ds

-- `fault read-conflict a[1] line 4 processors 1 3`, with columns and locals
-- `fault read-conflict a[1] line 4:9 processors 1 3 1: x 3 y 7 3: x 0 y 2`
abbrev pub faulting_text : List SharedEntry → Detail → Location → Fault → List ℤ → List OwnLocals → List ℕ
faulting_text layout detail here fault who locals = fault_text layout fault
    ++ (column_text detail.columns here.offset ++ (meeting_text who ++ own_text detail.locals here.offset locals))

-- that, and what is told beside it: `line 14 processors 4 a[3] 4 -> 7 m 8 -> 4 x 1: 3 -> 7 2: 0 -> 1 prints 36`
abbrev pub whole_text : List SharedEntry → Detail → Location → (processors : ℕ) → (cells variables : List Change) →
    List LocalChange → List ℤ → List ℕ
whole_text layout detail here k cells variables locals printed =
    ran_text layout detail.columns here k cells ++ beside_text detail.locals here.offset variables locals printed

abbrev pub told_text : List SharedEntry → Detail → Entry → List ℕ
told_text layout detail (Ran here acts cells variables locals items) =
    whole_text layout detail here (length acts) cells variables locals items
told_text layout detail (Faulting here fault cause acts met locals) = faulting_text layout detail here fault met locals

abbrev pub number_text : ℕ → List ℕ
number_text number = decimal number ++ codes " "

-- an entry behind its number
abbrev pub entry_text : List SharedEntry → Detail → ℕ → Entry → List ℕ
entry_text layout detail number e = number_text number ++ told_text layout detail e
