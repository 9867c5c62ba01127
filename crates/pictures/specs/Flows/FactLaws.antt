-- What a flow's picture shows: facts that are so, each by its shape, and nothing else.
use Rattle.std.specs.Prelude.{◌≡◌, ℕ, ◌+◌, ◌<◌, List, [], ◌∷◌, ◌++◌, ℤ, Bool, None, length, slice_index_or}
use Rattle.std.specs.List.{Contains}
use Rattle.svg_texts.specs.Shapes.{Over}
use Rattle.pram_model.specs.Layout.{SharedEntry}
use Rattle.write_rules.specs.declared.fault.Fault.{Fault}
use Rattle.journal.specs.Entries.{Act, Entry, Ran, Faulting}
use Rattle.pictures.specs.declared.flows.spans.CellSpan.{CellSpan}
use Rattle.pictures.specs.Flows.Cells.{entry_cells}
use Rattle.pictures.specs.Acts.{acts_in}
use Rattle.pictures.specs.Flows.Choice.{number_before, touching}
use Rattle.pictures.specs.Flows.Drawing.{drawing}
use Rattle.pictures.specs.Flows.Facts.{Fact, Row, Heading, Line, Box, Ring, Stop, fact_shape, row_facts, statement_facts}
use Rattle.pictures.specs.Flows.Laws.{IsColumn, arrows_of, cells, found, nodes_of, statements}
use Rattle.pictures.specs.Flows.Marks.{Reading}
use Rattle.pictures.specs.Flows.MarkShapes.{each}
use Rattle.pictures.specs.Flows.Picture.{counts, flow, title}
use Rattle.pictures.specs.Flows.Places.{picture_height, picture_width}
use Rattle.pictures.specs.Flows.Values.{value_behind}

-- ---- the facts of a run

-- of a statement by its number, in that column
abbrev pub run_facts_of : (Entry → List Bool) → (opening : List ℤ) → List Entry → (rows : List ℕ) → (column : ℕ) → ℕ × Entry → List Fact
run_facts_of aside opening es rows j p = statement_facts rows j p.0 p.1 (aside p.1) (value_behind opening es p.0)

abbrev pub run_facts : (Entry → List Bool) → (opening : List ℤ) → List Entry → (rows : List ℕ) → (column : ℕ) → List (ℕ × Entry) →
    List Fact
run_facts aside opening es rows j [] = []
run_facts aside opening es rows j (p ∷ ps) = run_facts_of aside opening es rows j p ++ run_facts aside opening es rows (j + 1) ps

-- the value of each cell before the first statement that is drawn
abbrev pub values_before : (opening : List ℤ) → List Entry → (from to : ℕ) → (cell : ℕ) → ℤ
values_before opening es from to = value_behind opening es (number_before (touching from to es))

abbrev pub facts : List CellSpan → (Entry → List Bool) → (opening : List ℤ) → List Entry → (from to : ℕ) → List Fact
facts only aside opening es from to = row_facts (values_before opening es from to) 0 (cells only es from to)
    ++ run_facts aside opening es (cells only es from to) 1 (statements es from to)

-- ---- laws

-- the picture has a title and a size; it shows what is drawn in words and what is what, and then these facts
abbrev pub ThePictureIsItsShapes : Type 0
ThePictureIsItsShapes =
    (only : List CellSpan) (layout : List SharedEntry) (text : List ℕ) (aside : Entry → List Bool) (opening : List ℤ) (es : List Entry)
    (from to : ℕ) → flow layout text aside opening es only from to ≡ (record {
      title = title;
      wide = picture_width (length (statements es from to));
      tall = picture_height (length (cells only es from to));
      shape = Over (counts layout only (drawing aside opening es from to) (found only es from to))
          (each (fact_shape layout text (cells only es from to) (picture_width (length (statements es from to))))
          (facts only aside opening es from to));
    })

-- that a statement faulted so
abbrev pub HasFault : Entry → Fault → (met : List ℤ) → Type 0
HasFault (Ran here acts cells variables locals printed) f met = ⊥
HasFault (Faulting here fault cause acts those locals) f met = (fault ≡ f) × (those ≡ met)

-- a processor of the statement in its column read the cell, and wrote none
pub record IsReadAlone (ps : List (ℕ × Entry)) (r : Reading) : Type 0 where
  pub place : ℕ
  pub statement : ℕ × Entry
  pub is_column : IsColumn ps place statement
  pub column : r.column ≡ 1 + place
  pub act : Act
  pub acts : Contains (acts_in statement.1) act
  pub reads : Contains act.reads r.cell
  pub writes : act.write ≡ None

abbrev pub IsSo : List CellSpan → (Entry → List Bool) → (opening : List ℤ) → List Entry → (from to : ℕ) → Fact → Type 0
IsSo only aside opening es from to (Row k c v) =
    (k < length (cells only es from to)) × (slice_index_or (cells only es from to) k c ≡ c) × (v ≡ values_before opening es from to c)
IsSo only aside opening es from to (Heading j n e) = (i : ℕ) × (j ≡ 1 + i) × IsColumn (statements es from to) i (n, e)
IsSo only aside opening es from to (Line a) = Contains (arrows_of only aside es from to) a
IsSo only aside opening es from to (Box n) = Contains (nodes_of only opening es from to) n
IsSo only aside opening es from to (Ring r) = IsReadAlone (statements es from to) r
IsSo only aside opening es from to (Stop j f met) =
    (i : ℕ) × (p : ℕ × Entry) × (j ≡ 1 + i) × IsColumn (statements es from to) i p × HasFault p.1 f met

abbrev pub FactsAreSo : Type 0
FactsAreSo = (only : List CellSpan) (aside : Entry → List Bool) (opening : List ℤ) (es : List Entry) (from to : ℕ) (s : Fact) →
    Contains (facts only aside opening es from to) s → IsSo only aside opening es from to s

-- a cell that has a row was touched by a statement that has a column
abbrev pub RowsWereTouched : Type 0
RowsWereTouched = (only : List CellSpan) (es : List Entry) (from to cell : ℕ) → Contains (cells only es from to) cell →
    (p : ℕ × Entry) × Contains (statements es from to) p × Contains (entry_cells p.1) cell
