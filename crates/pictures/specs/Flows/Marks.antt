-- The marks of a column: what a statement wrote, from which cells that was computed, and what it read alone.
use Rattle.std.specs.Prelude.{ℕ, ◌+◌, nat_eq, Bool, true, false, not, ◌&&◌, ◌||◌, List, [], ◌∷◌, Option, Some, None, ℤ, map}
use Rattle.std.specs.Prelude.{slice_index_or}
use Rattle.std.specs.List.{filter, flat_map, list_any, position_or_len}
use Rattle.journal.specs.Entries.{Act}
use Rattle.pictures.specs.Flows.Values.{value_at}

-- a cell that was written, with its value behind the statement
pub record Node : Type 0 where
  pub cell : ℕ
  pub column : ℕ
  pub value : ℤ

-- from a cell that a processor read to the one that it wrote; dashed where it was read for subscripts alone
pub record Arrow : Type 0 where
  pub from : ℕ
  pub to : ℕ
  pub column : ℕ
  pub dashed : Bool

-- a cell that was read by a processor that wrote none
pub record Reading : Type 0 where
  pub cell : ℕ
  pub column : ℕ

-- ---- what was done

abbrev pub is_written : (write to : Option ℕ) → Bool
is_written (Some c) (Some to) = nat_eq c to
is_written (Some c) None = false
is_written None (Some to) = false
is_written None None = true

abbrev pub has_read : List ℕ → (cell : ℕ) → Bool
has_read reads cell = list_any (λ r. nat_eq r cell) reads

-- a processor wrote it
abbrev pub writes : List Act → (cell : ℕ) → Bool
writes acts cell = list_any (λ a. is_written a.write (Some cell)) acts

-- it read the one and wrote the other, or wrote none
abbrev pub carries_one : Act → (from : ℕ) → (to : Option ℕ) → Bool
carries_one a from to = is_written a.write to && has_read a.reads from

-- a processor did
abbrev pub carries : List Act → (from : ℕ) → (to : Option ℕ) → Bool
carries acts from to = list_any (λ a. carries_one a from to) acts

-- what is told of the first one that wrote it, by what is told of each
abbrev pub value_in : List Act → (written : List ℤ) → (cell : ℕ) → ℤ
value_in acts written cell = value_at written (position_or_len (λ a. is_written a.write (Some cell)) acts)

-- ---- which reads of a statement stand in a subscript: `aside` tells it of each, in the order of evaluation

-- nothing is known behind the end
abbrev pub stands_aside : List Bool → (k : ℕ) → Bool
stands_aside aside k = slice_index_or aside k false

-- a cell is among reads, counted from k on, by one that stands in no subscript
abbrev pub valued_from : List Bool → (k : ℕ) → (reads : List ℕ) → (cell : ℕ) → Bool
valued_from aside k [] cell = false
valued_from aside k (r ∷ reads) cell = (nat_eq r cell && not (stands_aside aside k)) || valued_from aside (k + 1) reads cell

abbrev pub values_one : List Bool → Act → (from : ℕ) → (to : Option ℕ) → Bool
values_one aside a from to = is_written a.write to && valued_from aside 0 a.reads from

-- a processor computed what it wrote there from the value of the other
abbrev pub values : List Bool → List Act → (from : ℕ) → (to : Option ℕ) → Bool
values aside acts from to = list_any (λ a. values_one aside a from to) acts

-- ---- marks, by the cells that are drawn

abbrev pub node : (column : ℕ) → (ℕ → ℤ) → (cell : ℕ) → Node
node column value cell = record { cell = cell; column = column; value = value cell }

abbrev pub nodes : List ℕ → (column : ℕ) → (ℕ → ℤ) → List Act → List Node
nodes rows column value acts = map (node column value) (filter (writes acts) rows)

abbrev pub arrow : (column to from : ℕ) → (dashed : Bool) → Arrow
arrow column to from dashed = record { from = from; to = to; column = column; dashed = dashed }

-- dashed where no processor computed the one from the value of the other
abbrev pub arrow_by : (column : ℕ) → List Bool → List Act → (to from : ℕ) → Arrow
arrow_by column aside acts to from = arrow column to from (not (values aside acts from (Some to)))

abbrev pub arrows_to : List ℕ → (column : ℕ) → List Bool → List Act → (to : ℕ) → List Arrow
arrows_to rows column aside acts to = map (arrow_by column aside acts to) (filter (λ from. carries acts from (Some to)) rows)

abbrev pub arrows : List ℕ → (column : ℕ) → List Bool → List Act → List Arrow
arrows rows column aside acts = flat_map (arrows_to rows column aside acts) (filter (writes acts) rows)

abbrev pub reading : (column cell : ℕ) → Reading
reading column cell = record { cell = cell; column = column }

abbrev pub readings : List ℕ → (column : ℕ) → List Act → List Reading
readings rows column acts = map (reading column) (filter (λ cell. carries acts cell None) rows)
