-- Where rows and columns stand, in pixels.
use Rattle.std.specs.Prelude.{ℕ, ◌+◌, ◌*◌, max, nat_eq, List}
use Rattle.std.specs.List.{position_or_len}

-- the row of a cell, counted from 0
abbrev pub row_of : List ℕ → (cell : ℕ) → ℕ
row_of rows cell = position_or_len (λ r. nat_eq r cell) rows

abbrev pub y_at : (row : ℕ) → ℕ
y_at row = 310 + 24 * row

abbrev pub y_of : List ℕ → (cell : ℕ) → ℕ
y_of rows cell = y_at (row_of rows cell)

-- columns are counted from 1; number 0 is that of the values before
abbrev pub x_of : (column : ℕ) → ℕ
x_of column = 168 + 100 * column

abbrev pub picture_width : (columns : ℕ) → ℕ
picture_width columns = max 640 (x_of columns + 44)

abbrev pub picture_height : (rows : ℕ) → ℕ
picture_height rows = y_at rows + 44
