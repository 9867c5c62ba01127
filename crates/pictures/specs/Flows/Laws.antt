-- What a reader relies on: the boxes and the lines of a picture.
use Rattle.std.specs.Prelude.{◌≡◌, ℕ, ◌+◌, ◌<◌, List, [], ◌∷◌, ◌++◌, ℤ, Some, length, map, slice_index_or, take, Bool, not}
use Rattle.std.specs.List.{Contains}
use Rattle.journal.specs.Entries.{Act, Entry}
use Rattle.pictures.specs.Flows.Cells.{rows_and_next}
use Rattle.pictures.specs.declared.flows.spans.CellSpan.{CellSpan}
use Rattle.pictures.specs.Acts.{acts_in}
use Rattle.pictures.specs.Flows.Choice.{drawn}
use Rattle.pictures.specs.Flows.Marks.{Arrow, Node, arrows, nodes, values}
use Rattle.pictures.specs.Flows.Values.{value_behind}

-- ---- the statements and the cells of a picture

abbrev pub statements : List Entry → (from to : ℕ) → List (ℕ × Entry)
statements es from to = drawn from to es

-- those that these statements touched
abbrev pub found : List CellSpan → List Entry → (from to : ℕ) → List ℕ
found only es from to = rows_and_next only (map (λ p. p.1) (statements es from to))

abbrev pub cells : List CellSpan → List Entry → (from to : ℕ) → List ℕ
cells only es from to = take 64 (found only es from to)

-- column 1 + i is of this statement
pub record IsColumn (ps : List (ℕ × Entry)) (i : ℕ) (p : ℕ × Entry) : Type 0 where
  pub within : i < length ps
  pub is : slice_index_or ps i p ≡ p

-- ---- its boxes and its lines

-- those of columns that are counted from j on
abbrev pub nodes_from : List ℤ → List Entry → List ℕ → (j : ℕ) → List (ℕ × Entry) → List Node
nodes_from opening es rows j [] = []
nodes_from opening es rows j (p ∷ ps) =
    nodes rows j (value_behind opening es p.0) (acts_in p.1) ++ nodes_from opening es rows (j + 1) ps

abbrev pub arrows_from : (Entry → List Bool) → List ℕ → (j : ℕ) → List (ℕ × Entry) → List Arrow
arrows_from aside rows j [] = []
arrows_from aside rows j (p ∷ ps) = arrows rows j (aside p.1) (acts_in p.1) ++ arrows_from aside rows (j + 1) ps

abbrev pub nodes_of : List CellSpan → List ℤ → List Entry → (from to : ℕ) → List Node
nodes_of only opening es from to = nodes_from opening es (cells only es from to) 1 (statements es from to)

abbrev pub arrows_of : List CellSpan → (Entry → List Bool) → List Entry → (from to : ℕ) → List Arrow
arrows_of only aside es from to = arrows_from aside (cells only es from to) 1 (statements es from to)

-- a processor of the statement in its column read the cell where a line begins, and wrote the one where it ends
pub record IsCarried (aside : Entry → List Bool) (j : ℕ) (ps : List (ℕ × Entry)) (l : Arrow) : Type 0 where
  pub place : ℕ
  pub statement : ℕ × Entry
  pub within : place < length ps
  pub is : slice_index_or ps place statement ≡ statement
  pub column : l.column ≡ j + place
  pub act : Act
  pub acts : Contains (acts_in statement.1) act
  pub reads : Contains act.reads l.from
  pub writes : act.write ≡ Some l.to
  -- and it is dashed exactly where no processor of it read that cell for the value that it wrote there
  pub dashed : l.dashed ≡ not (values (aside statement.1) (acts_in statement.1) l.from (Some l.to))
