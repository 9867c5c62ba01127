-- Columns: a cell for each processor, if it names one, and a value for each.
use Rattle.std.specs.Prelude.{◌≡◌, ℕ, ◌<◌, ℤ, pos, List, Option, Some, None, slice_index_or}

-- the cells are below n
abbrev pub AreBelow : ℕ → List (Option ℕ) → Type 0
AreBelow n cells = (j cell : ℕ) → slice_index_or cells j None ≡ Some cell → cell < n

-- where there is a cell, the value of that cell stands
abbrev pub HaveCome : (ℕ → ℤ) → List (Option ℕ) → List ℤ → Type 0
HaveCome value cells values = (j cell : ℕ) → slice_index_or cells j None ≡ Some cell → slice_index_or values j (pos 0) ≡ value cell

-- and so it is for the first n
abbrev pub HaveComeTo : ℕ → (ℕ → ℤ) → List (Option ℕ) → List ℤ → Type 0
HaveComeTo n value cells values = (j cell : ℕ) → j < n → slice_index_or cells j None ≡ Some cell →
    slice_index_or values j (pos 0) ≡ value cell
