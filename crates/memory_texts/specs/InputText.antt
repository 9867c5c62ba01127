-- The text of a file of an input.
use Rattle.std.specs.Prelude.{ℕ, ℤ, List, [], ◌∷◌, ◌++◌, codes}
use Rattle.std.specs.Fmt.{signed_decimal}
use Rattle.program_texts.specs.Shown.{spaced}

-- its values in decimal, on a line, one space between two: `3 1 4`
abbrev pub input_text : List ℤ → List ℕ
input_text [] = codes "\n"
input_text (v ∷ vs) = signed_decimal v ++ (spaced vs ++ codes "\n")
