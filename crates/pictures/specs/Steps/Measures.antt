-- What a picture is drawn by, and where its columns and rows stand, in pixels.
use Rattle.std.specs.Prelude.{ℕ, ◌+◌, ◌*◌, ◌/◌, ◌%◌, min, max, List, ℤ, length}
use Rattle.pram_model.specs.Layout.{SharedEntry}
use Rattle.journal.specs.Entries.{Entry}
use Rattle.pictures.specs.Steps.Drawn.{first_drawn, last_drawn, rows_of}
use Rattle.pictures.specs.Steps.ProgramLines.{longest}
use Rattle.pictures.specs.declared.steps.frame as rust

-- the names of shared memory, the program's text, the indices that have a row, how many letters stand above a column at most, and which
-- part of the run is drawn
pub record Frame : Type 0 where
  pub layout : List SharedEntry
  pub text : List ℕ
  pub rows : List ℤ
  pub letters : ℕ
  pub part : rust.Part.Part

abbrev pub frame_is : rust.Frame.Frame → Frame
frame_is f = record { layout = f.layout.now; text = f.text.now; rows = f.rows.now; letters = f.letters; part = f.part }

abbrev pub letters_of : (text : List ℕ) → List Entry → ℕ
letters_of text es = max (longest text (first_drawn es)) (longest text (last_drawn es))

-- the frame of these entries
abbrev pub frame_of : List SharedEntry → (text : List ℕ) → rust.Part.Part → List Entry → Frame
frame_of layout text part es =
    record { layout = layout; text = text; rows = rows_of es; letters = letters_of text es; part = part }

-- ---- columns: 16 to a band; j others stand before it, in all bands

abbrev pub column_left : (j : ℕ) → ℕ
column_left j = 160 + 64 * (j % 16)

-- ---- bands, each with its rows: that of number 0 is of the one outside pardo

abbrev pub band_height : Frame → ℕ
band_height f = 7 * f.letters + (20 * length f.rows + 104)

-- where the bands begin, and where so many end
abbrev pub bands_end : Frame → (bands : ℕ) → ℕ
bands_end f bands = 80 + bands * band_height f

-- where the rows of the band of a column begin
abbrev pub rows_top : Frame → (j : ℕ) → ℕ
rows_top f j = bands_end f (j / 16) + (7 * f.letters + 50)

abbrev pub row_top : (top row : ℕ) → ℕ
row_top top row = top + 20 * row

-- where a column begins, where its rows begin, and the number of its statement
pub record Column : Type 0 where
  pub x : ℕ
  pub y : ℕ
  pub number : ℕ

abbrev pub column_is : rust.Column.Column → Column
column_is c = record { x = c.x; y = c.y; number = c.number }

-- that of a statement, where j others stand before it; its number is that in the part, and those before that are counted too
abbrev pub column_at : Frame → (j number : ℕ) → Column
column_at f j number = record { x = column_left j; y = rows_top f j; number = number + f.part.skipped }

-- ---- all of it, of so many columns

abbrev pub bands_of : (columns : ℕ) → ℕ
bands_of columns = (columns + 15) / 16

abbrev pub picture_width : (columns : ℕ) → ℕ
picture_width columns = max 720 (172 + 64 * min 16 columns)

-- with room for two lines below the bands
abbrev pub picture_height : Frame → (columns : ℕ) → ℕ
picture_height f columns = bands_end f (bands_of columns) + 40

abbrev pub count_drawn : (statements : ℕ) → ℕ
count_drawn statements = min 112 statements
