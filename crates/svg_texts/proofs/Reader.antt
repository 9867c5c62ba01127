-- A reader of XML: what it has come to behind each byte of a text.
use Rattle.std.specs.Prelude.{ℕ, nat_eq, Bool, true, false, ◌&&◌, ◌||◌, if◌then◌else◌, List, [], ◌∷◌, ◌++◌, codes}
use Rattle.svg_texts.specs.WellFormed.{is_first, is_inner, is_letter, is_quoted}

-- whether two texts are one
abbrev pub same_text : List ℕ → List ℕ → Bool
same_text [] [] = true
same_text (a ∷ x) (b ∷ y) = nat_eq a b && same_text x y
same_text _ _ = false

-- whether a text is one of these
abbrev pub is_one_of : List (List ℕ) → List ℕ → Bool
is_one_of [] text = false
is_one_of (other ∷ rest) text = same_text other text || is_one_of rest text

-- Where elements are open, their names stand in a list, the inmost one first. Names in a tag: those of its attributes so far.
pub data State : Type 0 where
  start : State
  -- behind the first `<`
  rooted : State
  -- in the content of the inmost open element; with none behind the root
  inside : (outer : List (List ℕ)) → State
  -- in there behind `<` and behind `&`
  opened : (tag : List ℕ) (outer : List (List ℕ)) → State
  referring : (tag : List ℕ) (outer : List (List ℕ)) → State
  -- in front of a byte and what is left behind it, and then inside
  awaiting : (byte : ℕ) (left : List ℕ) (outer : List (List ℕ)) → State
  -- in the name of a tag
  named : (tag : List ℕ) (outer : List (List ℕ)) → State
  -- in a tag, behind a value
  behind : (names : List (List ℕ)) (tag : List ℕ) (outer : List (List ℕ)) → State
  -- in front of an attribute's name, in it, in front of its quote, and in its value
  spaced : (names : List (List ℕ)) (tag : List ℕ) (outer : List (List ℕ)) → State
  attribute : (name : List ℕ) (names : List (List ℕ)) (tag : List ℕ) (outer : List (List ℕ)) → State
  equated : (name : List ℕ) (names : List (List ℕ)) (tag : List ℕ) (outer : List (List ℕ)) → State
  quoted : (name : List ℕ) (names : List (List ℕ)) (tag : List ℕ) (outer : List (List ℕ)) → State
  done : State
  failed : State

-- in front of these bytes
abbrev pub await : List ℕ → (outer : List (List ℕ)) → State
await [] outer = inside outer
await (b ∷ left) outer = awaiting b left outer

-- what a tag goes on with behind its name or a value
abbrev pub in_tag : (names : List (List ℕ)) (tag : List ℕ) (outer : List (List ℕ)) → ℕ → State
in_tag names tag outer b =
    if nat_eq b 32 then spaced names tag outer
    else if nat_eq b 47 then awaiting 62 [] outer
    else if nat_eq b 62 then inside (tag ∷ outer)
    else failed

abbrev pub in_content : (tag : List ℕ) (outer : List (List ℕ)) → ℕ → State
in_content tag outer b =
    if is_letter b then inside (tag ∷ outer)
    else if nat_eq b 60 then opened tag outer
    else if nat_eq b 38 then referring tag outer
    else failed

-- the name of an attribute may go on or end
abbrev pub in_name : (name : List ℕ) (names : List (List ℕ)) (tag : List ℕ) (outer : List (List ℕ)) → ℕ → State
in_name name names tag outer b =
    if is_inner b then attribute (name ++ (b ∷ [])) names tag outer
    else if nat_eq b 61 then (if is_one_of names name then failed else equated name names tag outer)
    else failed

abbrev pub in_value : (name : List ℕ) (names : List (List ℕ)) (tag : List ℕ) (outer : List (List ℕ)) → ℕ → State
in_value name names tag outer b =
    if is_quoted b then quoted name names tag outer
    else if nat_eq b 39 then behind (name ∷ names) tag outer
    else failed

abbrev pub step : State → ℕ → State
step start b = if nat_eq b 60 then rooted else failed
step rooted b = if is_first b then named (b ∷ []) [] else failed
step (inside []) b = if nat_eq b 10 then done else failed
step (inside (tag ∷ outer)) b = in_content tag outer b
step (opened tag outer) b =
    if nat_eq b 47 then await (tag ++ codes ">") outer
    else if is_first b then named (b ∷ []) (tag ∷ outer)
    else failed
step (referring tag outer) b =
    if nat_eq b 97 then await (codes "mp;") (tag ∷ outer)
    else if nat_eq b 108 then await (codes "t;") (tag ∷ outer)
    else if nat_eq b 103 then await (codes "t;") (tag ∷ outer)
    else failed
step (awaiting byte left outer) b = if nat_eq b byte then await left outer else failed
step (named tag outer) b = if is_inner b then named (tag ++ (b ∷ [])) outer else in_tag [] tag outer b
step (behind names tag outer) b = in_tag names tag outer b
step (spaced names tag outer) b = if is_first b then attribute (b ∷ []) names tag outer else failed
step (attribute name names tag outer) b = in_name name names tag outer b
step (equated name names tag outer) b = if nat_eq b 39 then quoted name names tag outer else failed
step (quoted name names tag outer) b = in_value name names tag outer b
step done b = failed
step failed b = failed

abbrev pub run : State → List ℕ → State
run s [] = s
run s (b ∷ text) = run (step s b) text
