-- Where the element stands whose subscript is outside the bounds of its array.
use Rattle.std.specs.Prelude.{ℕ, ℤ, nat_le, ◌&&◌, Bool, false, if◌then◌else◌, List, [], ◌∷◌, Option, Some, None, length, slice_get}
use Rattle.std.specs.List.{filter}
use Rattle.pram_model.specs.Layout.{SharedEntry, cell_of, subscripts}
use Rattle.pram_tokens.specs.declared.token.Location.{Location}
use Rattle.pram_values.specs.Truth.{is_equal}
use Rattle.pram_values.specs.declared.place.Place.{Place}
use Rattle.pram_values.specs.declared.place.Place.TheVariants as place
use Rattle.pram_check.specs.Checked.{Checked}
use Rattle.journal.specs.Causes.{Cause, Beyond}
use Rattle.journal.specs.Entries.{Act}
use Rattle.element_places.specs.Elements.{elements_at}

-- whether a cell is one of those from the first to the last
abbrev pub is_between : (first last : Option ℕ) → (cell : ℕ) → Bool
is_between (Some a) (Some b) c = nat_le a c && nat_le c b
is_between (Some a) None c = false
is_between None last c = false

-- how many of some reads are of those
abbrev pub count_between : (first last : Option ℕ) → (reads : List ℕ) → ℕ
count_between first last reads = length (filter (is_between first last) reads)

-- how many are of the cells of a declaration, from the one at its least subscript to the one at its greatest
abbrev pub count_of : List SharedEntry → (entry : ℕ) → SharedEntry → (reads : List ℕ) → ℕ
count_of layout entry e = count_between (cell_of layout entry (subscripts e.bounds).0) (cell_of layout entry (subscripts e.bounds).1)

abbrev pub is_index : Option ℤ → (index : ℤ) → Bool
is_index None i = false
is_index (Some j) i = is_equal j i

abbrev pub is_processor : Act → (index : ℤ) → Bool
is_processor a i = is_index a.processor i

-- what the processor of that index read
abbrev pub reads_by : List Act → (index : ℤ) → List ℕ
reads_by [] i = []
reads_by (a ∷ acts) i = if is_processor a i then a.reads else reads_by acts i

abbrev pub first_reads : List Act → List ℕ
first_reads [] = []
first_reads (a ∷ acts) = a.reads

-- what the one read that failed there: outside pardo there is one
abbrev pub reads_at : List Act → Place → List ℕ
reads_at acts place.All = first_reads acts
reads_at acts (place.Processor i) = reads_by acts i
reads_at acts (place.Cell c) = []

-- Of the elements of a declaration in the statement at an offset, in the order in which it comes to them, the one behind those that were
-- read: each of these is a read of one of its cells.
abbrev pub element_behind : Checked → (at entry : ℕ) → (reads : List ℕ) → Option SharedEntry → Option ℕ
element_behind p at entry reads None = None
element_behind p at entry reads (Some e) = slice_get (elements_at p.tree at e.name) (count_of p.layout entry e reads)

-- that, where a statement fails for a subscript
abbrev pub wrong_element : Checked → Location → List Act → Place → Option Cause → Option ℕ
wrong_element p here acts at (Some (Beyond entry z)) =
    element_behind p here.offset entry (reads_at acts at) (slice_get p.layout entry)
wrong_element p here acts at _ = None
