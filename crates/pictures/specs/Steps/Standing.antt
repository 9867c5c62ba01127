-- Where the statements that are drawn stand in a picture.
use Rattle.std.specs.Prelude.{◌≡◌, ℕ, ◌<◌, List, length, slice_index_or}
use Rattle.pram_model.specs.Layout.{SharedEntry}
use Rattle.journal.specs.Entries.{Entry}
use Rattle.pictures.specs.declared.steps.frame.Part.{Part}
use Rattle.pictures.specs.Steps.Drawn.{Numbered, drawn}
use Rattle.pictures.specs.Steps.Measures.{Column, column_at, frame_of, rows_top}

-- the statement that is drawn behind j others
abbrev pub StandsAt : List Entry → (j : ℕ) → Numbered → Type 0
StandsAt es j d = (j < length (drawn es)) × (slice_index_or (drawn es) j d ≡ d)

-- its column
abbrev pub column_of : List SharedEntry → (text : List ℕ) → Part → List Entry → (j : ℕ) → Numbered → Column
column_of layout text part es j d = column_at (frame_of layout text part es) j d.number

-- where the rows of its column begin, in whatever part of a run
abbrev pub top_of : List SharedEntry → (text : List ℕ) → List Entry → (j : ℕ) → ℕ
top_of layout text es j = rows_top (frame_of layout text (record { skipped = 0; whole = 0 }) es) j
