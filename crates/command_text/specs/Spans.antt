-- The cells of chosen declarations.
use Rattle.std.specs.Prelude.{ℕ, ◌+◌, Bool, true, false, List, [], ◌∷◌, ◌++◌, Option, Some, None}
use Rattle.pram_model.specs.Layout.{SharedEntry, cell_of, subscripts}
use Rattle.memory_texts.specs.Chosen.{is_chosen}
use Rattle.memory_texts.specs.declared.choice.Choice.{Choice}
use Rattle.memory_texts.specs.declared.choice.Choice.TheVariants.{All, Named, Nothing}
use Rattle.pictures.specs.declared.flows.spans.CellSpan.{CellSpan}

-- from the one cell to the other, where there are both
abbrev pub span_between : Option ℕ → Option ℕ → List CellSpan
span_between (Some first) (Some last) = record { first = first; last = last } ∷ []
span_between (Some first) None = []
span_between None last = []

abbrev pub span_if : (chosen : Bool) → Option ℕ → Option ℕ → List CellSpan
span_if true first last = span_between first last
span_if false first last = []

-- of the declaration of that number, if it is chosen: from the cell at its least subscript to the one at its greatest
abbrev pub span_of : List SharedEntry → Choice → (number : ℕ) → SharedEntry → List CellSpan
span_of layout choice i e =
    span_if (is_chosen choice e.name) (cell_of layout i (subscripts e.bounds).0) (cell_of layout i (subscripts e.bounds).1)

-- of some of them, whose numbers begin there
abbrev pub spans_from : List SharedEntry → Choice → (number : ℕ) → List SharedEntry → List CellSpan
spans_from layout choice i [] = []
spans_from layout choice i (e ∷ es) = span_of layout choice i e ++ spans_from layout choice (i + 1) es

-- of all that are chosen by their names; nothing where none is chosen so, and all cells are meant
abbrev pub chosen_spans : List SharedEntry → Choice → List CellSpan
chosen_spans layout All = []
chosen_spans layout Nothing = []
chosen_spans layout (Named word) = spans_from layout (Named word) 0 layout
