-- Which cells are drawn: the first of those that some statements touched.
use Rattle.std.specs.Prelude.{ℕ, zero, suc, ◌+◌, min, nat_lt, if◌then◌else◌, List, [], ◌∷◌, ◌++◌, Option, Some, None}
use Rattle.std.specs.Prelude.{nat_le, Bool, true, false, ◌&&◌, ◌||◌, length, slice_index, slice_set}
use Rattle.std.specs.List.{filter, flat_map, fold}
use Rattle.pram_values.specs.declared.place.Place.{Place}
use Rattle.pram_values.specs.declared.place.Place.TheVariants as place
use Rattle.journal.specs.Entries.{Act, Entry, Ran, Faulting}
use Rattle.pictures.specs.declared.flows.spans.CellSpan.{CellSpan}
use Rattle.pictures.specs.Acts.{acts_in}

-- ---- the cells that are touched

abbrev pub optional : Option ℕ → List ℕ
optional None = []
optional (Some c) = c ∷ []

abbrev pub act_cells : Act → List ℕ
act_cells a = a.reads ++ optional a.write

abbrev pub place_cells : Place → List ℕ
place_cells place.All = []
place_cells (place.Processor i) = []
place_cells (place.Cell c) = c ∷ []

-- at which it faulted
abbrev pub fault_cells : Entry → List ℕ
fault_cells (Ran here acts cells variables locals printed) = []
fault_cells (Faulting here fault cause acts met locals) = place_cells fault.place

abbrev pub entry_cells : Entry → List ℕ
entry_cells e = flat_map act_cells (acts_in e) ++ fault_cells e

-- those of some declarations alone, where any are given
abbrev pub is_among : List CellSpan → (cell : ℕ) → Bool
is_among [] cell = false
is_among (s ∷ ss) cell = (nat_le s.first cell && nat_le cell s.last) || is_among ss cell

abbrev pub is_chosen : List CellSpan → (cell : ℕ) → Bool
is_chosen [] cell = true
is_chosen (s ∷ ss) cell = is_among (s ∷ ss) cell

abbrev pub touched : List CellSpan → List Entry → List ℕ
touched only es = filter (is_chosen only) (flat_map entry_cells es)

-- ---- in ascending order

-- the lesser of two, without one that is less than x
abbrev pub nearer : (x : ℕ) → Option ℕ → ℕ → Option ℕ
nearer x None c = if nat_lt c x then None else Some c
nearer x (Some b) c = if nat_lt c x then Some b else Some (min b c)

abbrev pub nearer_if : List CellSpan → (x : ℕ) → Option ℕ → ℕ → Option ℕ
nearer_if only x best c = if is_chosen only c then nearer x best c else best

-- the least of the cells from x on
abbrev pub least_from : (x : ℕ) → List ℕ → Option ℕ
least_from x cells = fold (nearer x) None cells

abbrev pub with_row : Option ℕ → (ℕ → List ℕ) → List ℕ
with_row None rest = []
with_row (Some c) rest = c ∷ rest (c + 1)

-- so many of them at most, from x on
abbrev pub rows_from : (more x : ℕ) → List ℕ → List ℕ
rows_from zero x cells = []
rows_from (suc more) x cells = with_row (least_from x cells) (λ y. rows_from more y cells)

-- the first cells, and one more than are drawn
abbrev pub first_rows : List CellSpan → List Entry → List ℕ
first_rows only es = rows_from 65 0 (touched only es)

-- the cell at which one of them faulted
abbrev pub fault_cell : List CellSpan → List Entry → Option ℕ
fault_cell only es = fold (nearer_if only 0) None (flat_map fault_cells es)

-- where more cells are touched than are drawn, the cell of a fault has the last row if none of the first is its own
abbrev pub with_fault : Option ℕ → List ℕ → List ℕ
with_fault None rows = rows
with_fault (Some c) rows = if nat_lt 64 (length rows) && nat_lt (slice_index rows 63) c then slice_set rows 63 c else rows

abbrev pub rows_and_next : List CellSpan → List Entry → List ℕ
rows_and_next only es = with_fault (fault_cell only es) (first_rows only es)
