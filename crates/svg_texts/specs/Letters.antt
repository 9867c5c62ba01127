-- Bytes as a text of SVG.
use Rattle.std.specs.Prelude.{ℕ, nat_eq, nat_lt, ◌||◌, if◌then◌else◌, List, [], ◌∷◌, ◌++◌, codes}

-- a byte: a tab is a blank, and what is no printed letter of ASCII a question mark
abbrev pub letter : ℕ → List ℕ
letter b =
    if nat_eq b 38 then codes "&amp;"
    else if nat_eq b 60 then codes "&lt;"
    else if nat_eq b 62 then codes "&gt;"
    else if nat_eq b 9 then codes " "
    else if nat_lt b 32 || nat_lt 126 b then codes "?"
    else b ∷ []

abbrev pub letters : List ℕ → List ℕ
letters [] = []
letters (b ∷ bytes) = letter b ++ letters bytes
