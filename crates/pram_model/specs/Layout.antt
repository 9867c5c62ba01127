-- The shared declarations of a program in order, and the numbers of their cells.
use Rattle.std.specs.Prelude.{Bool, true, false, ◌≡◌, ℕ, zero, suc, ◌+◌, ◌^◌, List, [], ◌∷◌, Option, Some, None, ℤ, pos, ◌-ℤ◌, int_le, ◌&&◌}
use Rattle.std.specs.Prelude.{nat_abs, if◌then◌else◌}

-- one shared declaration: its name, and its bounds where it is an array
pub record SharedEntry : Type 0 where
  pub name : List ℕ
  pub bounds : Option (ℤ × ℤ)

-- how many integers there are from low to high
abbrev pub width : ℤ → ℤ → ℕ
width low high = if int_le low high then nat_abs (high -ℤ low) + 1 else 0

-- how many cells a declaration has: a single cell, or those of the array
abbrev pub size : Option (ℤ × ℤ) → ℕ
size None = 1
size (Some (low, high)) = width low high

abbrev pub total_size : List SharedEntry → ℕ
total_size [] = 0
total_size (e ∷ es) = size e.bounds + total_size es

-- the least and the greatest subscript; a single cell has the one subscript 0
abbrev pub subscripts : Option (ℤ × ℤ) → ℤ × ℤ
subscripts None = (pos 0, pos 0)
subscripts (Some bounds) = bounds

-- the cell of a subscript among cells that are numbered from `first` on and have the subscripts from low to high
abbrev pub cell_at : ℕ → (low high subscript : ℤ) → Option ℕ
cell_at first low high z = if int_le low z && int_le z high then Some (first + nat_abs (z -ℤ low)) else None

-- the same in a declaration
abbrev pub cell_in : ℕ → Option (ℤ × ℤ) → ℤ → Option ℕ
cell_in first None z = cell_at first (pos 0) (pos 0) z
cell_in first (Some (low, high)) z = cell_at first low high z

-- the same by the number of the declaration, where the cells are numbered on in the order of declaration
abbrev pub cell_from : ℕ → List SharedEntry → ℕ → ℤ → Option ℕ
cell_from first [] entry z = None
cell_from first (e ∷ es) zero z = cell_in first e.bounds z
cell_from first (e ∷ es) (suc entry) z = cell_from (first + size e.bounds) es entry z

-- the number of the cell at that subscript of that declaration, None where there is none
abbrev pub cell_of : List SharedEntry → ℕ → ℤ → Option ℕ
cell_of = cell_from 0

-- no program has more cells
abbrev pub most_cells : ℕ
most_cells = 2 ^ 20

-- the bounds that were declared
abbrev pub bounds_of : Bool → ℤ → ℤ → Option (ℤ × ℤ)
bounds_of true low high = Some (low, high)
bounds_of false low high = None

-- a single cell has the subscript 0
abbrev pub IsSingle : Bool → ℤ → ℤ → Type 0
IsSingle true low high = Unit {0}
IsSingle false low high = (low ≡ pos 0) × (high ≡ pos 0)
