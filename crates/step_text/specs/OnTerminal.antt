-- How entries are written for a reader on a terminal.
use Rattle.std.specs.Prelude.{ℕ, List, [], ◌∷◌, ◌++◌, ℤ, Bool, true, false, Option, codes, length}
use Rattle.std.specs.Borrow.{Bor}
use Rattle.pram_model.specs.Layout.{SharedEntry}
use Rattle.pram_tokens.specs.declared.token.Location.{Location}
use Rattle.journal.specs.declared.change.Change.{Change}
use Rattle.journal.specs.declared.local_change.LocalChange.{LocalChange}
use Rattle.journal.specs.Entries.{Entry, Faulting, Ran}
use Rattle.text_places.specs.Excerpts.{shown_line}
use Rattle.step_text.specs.declared.telling.Detail.{Detail}
use Rattle.step_text.specs.BesideCells.{beside_text}
use Rattle.step_text.specs.ChangeTexts.{changes_text, faulting_text, head_text, number_text}

-- changes in cyan, by the control sequences of ECMA-48
abbrev pub in_colour : List SharedEntry → List Change → List ℕ
in_colour layout ds = 27 ∷ codes "[36m" ++ (changes_text layout ds ++ 27 ∷ codes "[0m")

-- where that is asked for, and there are any
abbrev pub coloured_changes : List SharedEntry → Bool → List Change → List ℕ
coloured_changes layout false ds = changes_text layout ds
coloured_changes layout true [] = []
coloured_changes layout true (d ∷ ds) = in_colour layout (d ∷ ds)

abbrev pub ran_text : List SharedEntry → Bool → (columns : Option (Bor (List ℕ))) → Location → (processors : ℕ) → List Change → List ℕ
ran_text layout colours columns here k ds = head_text columns here k ++ coloured_changes layout colours ds

abbrev pub whole_text : List SharedEntry → Bool → Detail → Location → (processors : ℕ) → (cells variables : List Change) →
    List LocalChange → List ℤ → List ℕ
whole_text layout colours detail here k cells variables locals printed =
    ran_text layout colours detail.columns here k cells ++ beside_text detail.locals here.offset variables locals printed

abbrev pub told_text : List SharedEntry → Bool → Detail → Entry → List ℕ
told_text layout colours detail (Ran here acts cells variables locals items) =
    whole_text layout colours detail here (length acts) cells variables locals items
told_text layout colours detail (Faulting here fault cause acts met locals) = faulting_text layout detail here fault met locals

abbrev pub line_of : Entry → ℕ
line_of (Ran here acts cells variables locals items) = here.line
line_of (Faulting here fault cause acts met locals) = fault.line

-- the line of the text that the entry is of
abbrev pub beside : List ℕ → ℕ → List ℕ
beside text at = codes "  | " ++ shown_line text at

-- an entry behind its number, and its line of the text beside it: `5 line 9 processors 4 a[3] 4 -> 7  | a[i] := a[i] + 3;`
abbrev pub entry_line : List SharedEntry → (text : List ℕ) → Bool → Detail → ℕ → Entry → List ℕ
entry_line layout text colours detail number e = number_text number ++ (told_text layout colours detail e ++ beside text (line_of e))
