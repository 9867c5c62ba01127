-- Where a statement stands: its line, and the column at which it begins, where that is asked for.
use Rattle.std.specs.Prelude.{ℕ, List, [], ◌++◌, Option, Some, None, codes, decimal}
use Rattle.std.specs.Borrow.{Bor}
use Rattle.pram_tokens.specs.declared.token.Location.{Location}
use Rattle.text_places.specs.Places.{place_of}

-- the column in this text of what stands at that offset of it: `:5`
abbrev pub column_text : (columns : Option (Bor (List ℕ))) → (at : ℕ) → List ℕ
column_text None at = []
column_text (Some text) at = codes ":" ++ decimal (place_of text.now at).column

-- `line 9`
abbrev pub line_text : ℕ → List ℕ
line_text at = codes "line " ++ decimal at

-- that, and its column: `line 9:5`
abbrev pub place_text : (columns : Option (Bor (List ℕ))) → Location → List ℕ
place_text columns here = line_text here.line ++ column_text columns here.offset
