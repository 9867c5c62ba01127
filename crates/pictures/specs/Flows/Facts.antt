-- What a flow is drawn of, as facts, and the shape of each.
use Rattle.std.specs.Prelude.{ℕ, ◌+◌, List, [], ◌∷◌, ◌++◌, ℤ, Bool, map}
use Rattle.svg_texts.specs.Shapes.{Shape}
use Rattle.pram_model.specs.Layout.{SharedEntry}
use Rattle.write_rules.specs.declared.fault.Fault.{Fault}
use Rattle.journal.specs.Entries.{Entry, Ran, Faulting}
use Rattle.pictures.specs.Acts.{acts_in}
use Rattle.pictures.specs.Flows.Columns.{bottom, fault_marks, heading}
use Rattle.pictures.specs.Flows.Drawing.{Column}
use Rattle.pictures.specs.Flows.Marks.{Arrow, Node, Reading, arrows, nodes, readings, value_in}
use Rattle.pictures.specs.Flows.MarkShapes.{arrow_shape, node_shape, reading_shape}
use Rattle.pictures.specs.Flows.Places.{x_of, y_at}
use Rattle.pictures.specs.Flows.Rows.{row_head}

-- A row with its cell and the value before; what stands above a column; a line, a box and a ring; and what is drawn of a fault: the frame
-- around its head, that at its cell, its text and who met.
pub data Fact : Type 0 where
  Row : (place cell : ℕ) → (before : ℤ) → Fact
  Heading : (column number : ℕ) → Entry → Fact
  Line : Arrow → Fact
  Box : Node → Fact
  Ring : Reading → Fact
  Stop : (column : ℕ) → Fault → (met : List ℤ) → Fact

abbrev pub fact_shape : List SharedEntry → (text rows : List ℕ) → (wide : ℕ) → Fact → Shape
fact_shape layout text rows wide (Row k c v) = row_head layout wide (y_at k) c v
fact_shape layout text rows wide (Heading j n e) = heading text j n e
fact_shape layout text rows wide (Line a) = arrow_shape rows a
fact_shape layout text rows wide (Box n) = node_shape rows n
fact_shape layout text rows wide (Ring r) = reading_shape rows r
fact_shape layout text rows wide (Stop j f met) = fault_marks layout rows (x_of j) (bottom rows) f met

-- ---- of a drawing

abbrev pub row_facts : (before : ℕ → ℤ) → (place : ℕ) → List ℕ → List Fact
row_facts before k [] = []
row_facts before k (c ∷ cells) = Row k c (before c) ∷ row_facts before (k + 1) cells

abbrev pub stop_facts : (column : ℕ) → Entry → List Fact
stop_facts j (Ran here acts cells variables locals printed) = []
stop_facts j (Faulting here fault cause acts met locals) = Stop j fault met ∷ []

-- of a statement by its number, which of its reads stand in a subscript, and the value of each cell behind it
abbrev pub statement_facts : (rows : List ℕ) → (column number : ℕ) → Entry → (aside : List Bool) → (ℕ → ℤ) → List Fact
statement_facts rows j n e aside value = Heading j n e ∷ (map Line (arrows rows j aside (acts_in e))
    ++ (map Box (nodes rows j value (acts_in e)) ++ (map Ring (readings rows j (acts_in e)) ++ stop_facts j e)))

abbrev pub column_facts : (rows : List ℕ) → (column : ℕ) → Column → List Fact
column_facts rows j c = statement_facts rows j c.number c.entry c.aside (value_in (acts_in c.entry) c.written)

abbrev pub columns_facts : (rows : List ℕ) → (column : ℕ) → List Column → List Fact
columns_facts rows j [] = []
columns_facts rows j (c ∷ cs) = column_facts rows j c ++ columns_facts rows (j + 1) cs
