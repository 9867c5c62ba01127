-- The text of facts, each on a line, and that it says them.
use Rattle.std.specs.Prelude.{◌≡◌, ℕ, List, [], ◌∷◌, ◌++◌, Some, All}
use Rattle.serde_json.specs.Data.{Data}
use Rattle.serde_json.specs.Read.{read}
use Rattle.serde_json.specs.Written.{compact_text}

-- facts as JSON, and the end of the line
abbrev pub json_line : Data → List ℕ
json_line d = compact_text d ++ 10 ∷ []

abbrev pub json_lines : List Data → List ℕ
json_lines [] = []
json_lines (d ∷ ds) = json_line d ++ json_lines ds

-- read as JSON, the text of the facts is these facts again
abbrev pub ReadsBack : Data → Type 0
ReadsBack d = read (compact_text d) ≡ Some d

-- new is old with a line for each of the facts behind it, and each of these lines says its facts
pub record Adds (facts : List Data) (old new : List ℕ) : Type 0 where
  pub whole : new ≡ old ++ json_lines facts
  pub read_back : All ReadsBack facts

-- the text has a line for each of the facts, and each says its facts
abbrev pub IsJson : List Data → List ℕ → Type 0
IsJson facts text = Adds facts [] text
