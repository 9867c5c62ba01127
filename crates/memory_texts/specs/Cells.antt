-- Which cells a heading speaks of.
use Rattle.std.specs.Prelude.{ℕ, ◌+◌, ◌-◌, ℤ, nat_le, if◌then◌else◌, List, [], ◌∷◌, Option, Some, None, Result, Ok, Err}
use Rattle.pram_model.specs.Layout.{SharedEntry, cell_of, subscripts}
use Rattle.pram_model.specs.Names.{same_text}
use Rattle.memory_texts.specs.declared.heading.Interval.{Interval}
use Rattle.memory_texts.specs.declared.memory_fault.MemoryFault.{MemoryFault}
use Rattle.memory_texts.specs.declared.memory_fault.MemoryFault.TheVariants.{Unknown}
use Rattle.memory_texts.specs.Headings.{Headed}

-- the number of the first declaration of that name, counted on from there, and its bounds
abbrev pub declaration : (first : ℕ) → List SharedEntry → (name : List ℕ) → Option (ℕ × Option (ℤ × ℤ))
declaration first [] name = None
declaration first (e ∷ es) name = if same_text e.name name then Some (first, e.bounds) else declaration (first + 1) es name

-- the least and the greatest subscript that a heading speaks of: those of its interval, which no single cell has, or all of them
abbrev pub subscripts_of : (bounds : Option (ℤ × ℤ)) → Option Interval → Option (ℤ × ℤ)
subscripts_of bounds None = Some (subscripts bounds)
subscripts_of None (Some interval) = None
subscripts_of (Some bounds) (Some interval) = Some (interval.low, interval.high)

-- the cells from one to another: the first of them, and how many they are
abbrev pub between : (first last : Option ℕ) → Option (ℕ × ℕ)
between (Some first) (Some last) = if nat_le first last then Some (first, last - first + 1) else None
between _ _ = None

-- the cells of those subscripts of a declaration, if both have one and they stand in their order
abbrev pub cells_at : List SharedEntry → ℕ → Option (ℤ × ℤ) → Option (ℕ × ℕ)
cells_at layout i None = None
cells_at layout i (Some (low, high)) = between (cell_of layout i low) (cell_of layout i high)

-- that something is unknown where so many bytes are left of a line that ends there
abbrev pub unknown : (end left : ℕ) → MemoryFault
unknown end left = Unknown (end - left)

-- how many bytes are left from the LOW of the interval on, or from the name on where there is no interval
abbrev pub left_by : ℕ → Option Interval → ℕ
left_by left None = left
left_by left (Some interval) = interval.left

abbrev pub left_of : Headed → ℕ
left_of h = left_by h.left h.interval

-- the cells that were found, or that they are unknown
abbrev pub found_cells : (end left : ℕ) → Option (ℕ × ℕ) → Result (ℕ × ℕ) MemoryFault
found_cells end left None = Err (unknown end left)
found_cells end left (Some cells) = Ok cells

-- those of a declaration
abbrev pub declared_cells : List SharedEntry → (end : ℕ) → Headed → Option (ℕ × Option (ℤ × ℤ)) → Result (ℕ × ℕ) MemoryFault
declared_cells layout end h None = Err (unknown end h.left)
declared_cells layout end h (Some (i, bounds)) = found_cells end (left_of h) (cells_at layout i (subscripts_of bounds h.interval))

-- the first cell that a heading speaks of, in a line that ends there, and how many cells that are
abbrev pub cells_of : List SharedEntry → (end : ℕ) → Headed → Result (ℕ × ℕ) MemoryFault
cells_of layout end h = declared_cells layout end h (declaration 0 layout h.name)
