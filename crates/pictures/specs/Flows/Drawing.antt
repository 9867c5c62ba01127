-- What is drawn of a run: its columns, and what is said above and before them.
use Rattle.std.specs.Prelude.{ℕ, Bool, List, Option, Some, None, ℤ, map, length, pos}
use Rattle.journal.specs.Entries.{Act, Entry, entry_is}
use Rattle.pictures.specs.Acts.{acts_in}
use Rattle.pictures.specs.Flows.Choice.{drawn, number_before, touching}
use Rattle.pictures.specs.Flows.Values.{value_at, value_behind}
use Rattle.pictures.specs.declared.flows.column as rust_column
use Rattle.pictures.specs.declared.flows.drawing as rust_drawing

-- a statement that is drawn: its number, what is told of it, which of its reads stand in a subscript, and for each of its acts the value
-- behind it of the cell that was written
pub record Column : Type 0 where
  pub number : ℕ
  pub entry : Entry
  pub aside : List Bool
  pub written : List ℤ

-- which statements are asked for, how many there are in all, how many of those that are asked for touched shared memory, the value of each
-- cell before the first one that did, and the statements that are drawn
pub record Drawing : Type 0 where
  pub from : ℕ
  pub to : ℕ
  pub count : ℕ
  pub touching : ℕ
  pub before : ℕ → ℤ
  pub columns : List Column

abbrev pub column_is : rust_column.Column.Column → Column
column_is c = record { number = c.number; entry = entry_is c.entry; aside = c.aside.items; written = c.written.items }

abbrev pub drawing_is : rust_drawing.Drawing.Drawing → Drawing
drawing_is d = record {
  from = d.from;
  to = d.to;
  count = d.count;
  touching = d.touching;
  before = value_at d.before.items;
  columns = map column_is d.columns.items;
}

abbrev pub entries_of : List Column → List Entry
entries_of cs = map (λ c. c.entry) cs

-- ---- of a run

-- the value of the cell that was written, and 0 where none was
abbrev pub write_value : (ℕ → ℤ) → (write : Option ℕ) → ℤ
write_value value None = pos 0
write_value value (Some cell) = value cell

abbrev pub written_by : (ℕ → ℤ) → List Act → List ℤ
written_by value acts = map (λ a. write_value value a.write) acts

-- by the reads for subscripts of each entry, and the values before the first one
abbrev pub column_of : (Entry → List Bool) → List ℤ → List Entry → ℕ × Entry → Column
column_of aside opening es p = record {
  number = p.0;
  entry = p.1;
  aside = aside p.1;
  written = written_by (value_behind opening es p.0) (acts_in p.1);
}

abbrev pub drawing : (Entry → List Bool) → List ℤ → List Entry → (from to : ℕ) → Drawing
drawing aside opening es from to = record {
  from = from;
  to = to;
  count = length es;
  touching = length (touching from to es);
  before = value_behind opening es (number_before (touching from to es));
  columns = map (column_of aside opening es) (drawn from to es);
}
