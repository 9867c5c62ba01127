-- The page of a run: one file of HTML that fetches nothing, with the facts of the run in it.
use Rattle.std.specs.Prelude.{ℕ, List, ◌++◌}
use Rattle.pages.specs.declared.markup.TheConstants.{STYLE, NARROW, BODY, CLOSING}
use Rattle.pages.specs.declared.moving.TheConstants.{READING, MOVING}
use Rattle.pages.specs.declared.drawing.TheConstants.{PLACING, DRAWING}
use Rattle.pages.specs.declared.telling.TheConstants.{TELLING, MARKING}
use Rattle.pages.specs.declared.stepping.TheConstants.{STEPPING, GUIDING}
use Rattle.pages.specs.Facts.{both_text, facts_text}

-- how it looks: everywhere, and where it is narrow or printed
abbrev pub style : List ℕ
style = STYLE ++ NARROW

-- what is seen, and the beginning of the facts
abbrev pub front : List ℕ
front = style ++ BODY

-- ---- the script

abbrev pub reading : List ℕ
reading = READING ++ MOVING

abbrev pub drawing : List ℕ
drawing = PLACING ++ DRAWING

abbrev pub telling : List ℕ
telling = TELLING ++ MARKING

abbrev pub stepping : List ℕ
stepping = STEPPING ++ GUIDING

abbrev pub earlier : List ℕ
earlier = reading ++ drawing

abbrev pub later : List ℕ
later = telling ++ stepping

abbrev pub script : List ℕ
script = earlier ++ later

-- ---- the page

abbrev pub back : List ℕ
back = script ++ CLOSING

abbrev pub rest : (facts state : List ℕ) → (front back : ℕ) → List ℕ
rest facts state from to = facts_text facts state from to ++ back

-- the page of facts of which the lines before one place and from another on stand in it, with the state behind those between
abbrev pub page : (facts state : List ℕ) → (front back : ℕ) → List ℕ
page facts state from to = front ++ rest facts state from to

-- the same by what stands in it: the first lines, the state, the last lines, and how many are left out between them
abbrev pub rest_of : (first state last : List ℕ) → (left : ℕ) → List ℕ
rest_of first state last left = both_text first state last left ++ back

abbrev pub page_of : (first state last : List ℕ) → (left : ℕ) → List ℕ
page_of first state last left = front ++ rest_of first state last left

-- 2 MiB
abbrev pub most_bytes : ℕ
most_bytes = 2097152
