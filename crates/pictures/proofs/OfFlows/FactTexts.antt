-- The texts of rows and columns are those of the facts that they are drawn of.
use Rattle.std.proofs.Common.{◌≡◌, ◌∙◌, ℕ, ◌+◌, List, [], ◌∷◌, ◌++◌, ℤ, ap, append-nil, append_assoc, length, map, refl, sym}
use Rattle.svg_texts.specs.Shapes.{Shape, Over, shape_text}
use Rattle.pram_model.specs.Layout.{SharedEntry}
use Rattle.journal.specs.Entries.{Entry, Ran, Faulting}
use Rattle.pictures.specs.Acts.{acts_in}
use Rattle.pictures.specs.Flows.Columns.{column_fault, column_shape, heading}
use Rattle.pictures.specs.Flows.Drawing.{Column, Drawing}
use Rattle.pictures.specs.Flows.Facts.{Fact, Row, Line, Box, Ring, Stop, column_facts, columns_facts, fact_shape, row_facts}
use Rattle.pictures.specs.Flows.Facts.{stop_facts}
use Rattle.pictures.specs.Flows.Marks.{arrows, nodes, readings, value_in}
use Rattle.pictures.specs.Flows.MarkShapes.{each, marks_shape}
use Rattle.pictures.specs.Flows.Picture.{drawn_shape}
use Rattle.pictures.specs.Flows.Places.{picture_width}
use Rattle.pictures.specs.Flows.Table.{columns, row_heads, table}
use Rattle.pictures.proofs.OfFlows.EachShape.{each_mapped, joined}

module _ (layout : List SharedEntry) (text rows : List ℕ) (wide : ℕ) where
  abbrev t : Fact → Shape
  t = fact_shape layout text rows wide

  abbrev e : List Fact → List ℕ
  e fs = shape_text (each t fs)

  rows_are : (value : ℕ → ℤ) (k : ℕ) (cells : List ℕ) → row_heads layout wide value k cells ≡ each t (row_facts value k cells)
  rows_are value k [] = refl
  rows_are value k (c ∷ cells) = ap (λ s. Over (t (Row k c (value c))) s) (rows_are value (k + 1) cells)

  stop_is : (j : ℕ) (entry : Entry) → shape_text (column_fault layout rows j entry) ≡ e (stop_facts j entry)
  stop_is j (Ran here acts cells variables locals printed) = refl
  stop_is j (Faulting here fault cause acts met locals) = sym (append-nil (shape_text (t (Stop j fault met))))

  -- the marks of a column, and what is drawn of its fault
  parts_are : (ls bs rs stops : List Fact) → (e ls ++ (e bs ++ e rs)) ++ e stops ≡ e (ls ++ (bs ++ (rs ++ stops)))
  parts_are ls bs rs stops =
      append_assoc (e ls) (e bs ++ e rs) (e stops)
      ∙ ap (λ l. e ls ++ l) (append_assoc (e bs) (e rs) (e stops))
      ∙ sym (joined t ls (bs ++ (rs ++ stops))
      ∙ ap (λ l. e ls ++ l) (joined t bs (rs ++ stops) ∙ ap (λ l. e bs ++ l) (joined t rs stops)))

  marks_are : (j : ℕ) (c : Column) → shape_text (marks_shape rows j c) ≡
      e (map Line (arrows rows j c.aside (acts_in c.entry)))
      ++ (e (map Box (nodes rows j (value_in (acts_in c.entry) c.written) (acts_in c.entry)))
      ++ e (map Ring (readings rows j (acts_in c.entry))))
  marks_are j c =
      let ls = arrows rows j c.aside (acts_in c.entry) in
      let ns = nodes rows j (value_in (acts_in c.entry) c.written) (acts_in c.entry) in
      let rs = readings rows j (acts_in c.entry) in
      λ i. shape_text (sym (each_mapped t Line ls) i)
      ++ (shape_text (sym (each_mapped t Box ns) i) ++ shape_text (sym (each_mapped t Ring rs) i))

  column_is : (j : ℕ) (c : Column) → shape_text (column_shape layout text rows j c) ≡ e (column_facts rows j c)
  column_is j c =
      ap (λ l. shape_text (heading text j c.number c.entry) ++ l)
      ((λ i. marks_are j c i ++ stop_is j c.entry i)
      ∙ parts_are (map Line (arrows rows j c.aside (acts_in c.entry)))
      (map Box (nodes rows j (value_in (acts_in c.entry) c.written) (acts_in c.entry)))
      (map Ring (readings rows j (acts_in c.entry))) (stop_facts j c.entry))

  columns_are : (j : ℕ) (cs : List Column) → shape_text (columns layout text rows j cs) ≡ e (columns_facts rows j cs)
  columns_are j [] = refl
  columns_are j (c ∷ cs) =
      (λ i. column_is j c i ++ columns_are (j + 1) cs i) ∙ sym (joined t (column_facts rows j c) (columns_facts rows (j + 1) cs))

  columns_and_rows : (value : ℕ → ℤ) (cells : List ℕ) (cs : List Column) → shape_text (row_heads layout wide value 0 cells)
      ++ shape_text (columns layout text rows 1 cs) ≡ e (row_facts value 0 cells ++ columns_facts rows 1 cs)
  columns_and_rows value cells cs =
      (λ i. shape_text (rows_are value 0 cells i) ++ columns_are 1 cs i)
      ∙ sym (joined t (row_facts value 0 cells) (columns_facts rows 1 cs))

pub table_is : (layout : List SharedEntry) (text : List ℕ) (d : Drawing) (rows : List ℕ) → shape_text (table layout text d rows) ≡
    shape_text (drawn_shape layout text d rows)
table_is layout text d rows = columns_and_rows layout text rows (picture_width (length d.columns)) d.before rows d.columns
