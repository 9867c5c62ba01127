-- A message in lines that editors read.
use Rattle.std.specs.Prelude.{◌≡◌, ℕ, ◌+◌, ◌==◌, if◌then◌else◌, List, [], ◌∷◌, ◌++◌, Option, Some, None, codes, decimal, length}
use Rattle.std.specs.List.{AllByRecursion}
use Rattle.text_places.specs.Escaped.{escaped}
use Rattle.text_places.specs.Excerpts.{shown}
use Rattle.text_places.specs.Places.{place_of}
use Rattle.text_places.specs.declared.place.Place.{Place}
use Rattle.help.specs.declared.message.Other.{Other}
use Rattle.help.specs.declared.message.Other.TheVariants.{Begins, Ends}
use Rattle.help.specs.declared.message.Point.{Point}
use Rattle.help.specs.declared.message.Point.TheVariants.{Byte, Line}
use Rattle.help.specs.Messages.{Message}

-- `sum.pram:`
abbrev pub file : List ℕ → List ℕ
file name = escaped name ++ codes ":"

-- `4:`
abbrev pub number : ℕ → List ℕ
number n = decimal n ++ codes ":"

abbrev pub numbers : Place → List ℕ
numbers p = number p.line ++ number p.column

-- behind the file's name the line and the column, or the line alone, or neither
abbrev pub point : (bytes : List ℕ) → Option Point → List ℕ
point bytes None = []
point bytes (Some (Line line)) = number line
point bytes (Some (Byte at)) = numbers (place_of bytes at)

abbrev pub spaced : (bytes : List ℕ) → Option Point → List ℕ
spaced bytes p = point bytes p ++ codes " "

-- `sum.pram:4:7: `
abbrev pub place : (name bytes : List ℕ) → Option Point → List ℕ
place name bytes p = file name ++ spaced bytes p

-- `[E6]`
abbrev pub bracketed : List ℕ → List ℕ
bracketed code = shown code ++ codes "]"

abbrev pub coded : List ℕ → List ℕ
coded code = codes " [" ++ bracketed code

abbrev pub with_code : (sentence code : List ℕ) → List ℕ
with_code sentence code = shown sentence ++ coded code

-- `error: SENTENCE [E6]`
abbrev pub error : (sentence code : List ℕ) → List ℕ
error sentence code = codes "error: " ++ with_code sentence code

-- `note: SENTENCE`
abbrev pub note : List ℕ → List ℕ
note sentence = codes "note: " ++ shown sentence

-- what is said of a second place
abbrev pub other_note : Other → List ℕ
other_note (Begins at) = codes "it begins here"
other_note (Ends at) = codes "it ends here"

abbrev pub other_place : Other → Point
other_place (Begins at) = Byte at
other_place (Ends at) = Byte at

abbrev pub error_line : (name bytes : List ℕ) → Option Point → (sentence code : List ℕ) → List ℕ
error_line name bytes p sentence code = place name bytes p ++ error sentence code

abbrev pub note_line : (name bytes : List ℕ) → Option Point → (sentence : List ℕ) → List ℕ
note_line name bytes p sentence = place name bytes p ++ note sentence

-- ---- their text

abbrev pub whole_error : (name bytes : List ℕ) → Option Point → (sentence code : List ℕ) → List ℕ
whole_error name bytes p sentence code = error_line name bytes p sentence code ++ codes "\n"

abbrev pub whole_note : (name bytes : List ℕ) → Option Point → (sentence : List ℕ) → List ℕ
whole_note name bytes p sentence = note_line name bytes p sentence ++ codes "\n"

-- the sentence, where there is one
abbrev pub error_text : (name bytes : List ℕ) → Option Point → (sentence code : List ℕ) → List ℕ
error_text name bytes p [] code = []
error_text name bytes p (b ∷ rest) code = whole_error name bytes p (b ∷ rest) code

-- the second sentence, at the same place
abbrev pub more_text : (name bytes : List ℕ) → Option Point → (more : List ℕ) → List ℕ
more_text name bytes p [] = []
more_text name bytes p (b ∷ rest) = whole_note name bytes p (b ∷ rest)

-- the second place
abbrev pub other_text : (name bytes : List ℕ) → Option Other → List ℕ
other_text name bytes None = []
other_text name bytes (Some other) = whole_note name bytes (Some (other_place other)) (other_note other)

abbrev pub notes_text : (name bytes : List ℕ) → Message → List ℕ
notes_text name bytes m = more_text name bytes m.place m.more ++ other_text name bytes m.other

-- The message as lines: an error, with the code of the refusal behind its sentence, and notes.
abbrev pub gnu_text : (name bytes : List ℕ) → Message → (code : List ℕ) → List ℕ
gnu_text name bytes m code = error_text name bytes m.place m.sentence code ++ notes_text name bytes m

-- ---- its lines, without their ends

abbrev pub one_if : List ℕ → List ℕ → List (List ℕ)
one_if [] line = []
one_if (b ∷ rest) line = line ∷ []

abbrev pub other_lines : (name bytes : List ℕ) → Option Other → List (List ℕ)
other_lines name bytes None = []
other_lines name bytes (Some other) = note_line name bytes (Some (other_place other)) (other_note other) ∷ []

abbrev pub gnu_lines : (name bytes : List ℕ) → Message → (code : List ℕ) → List (List ℕ)
gnu_lines name bytes m code =
    one_if m.sentence (error_line name bytes m.place m.sentence code)
    ++ (one_if m.more (note_line name bytes m.place m.more) ++ other_lines name bytes m.other)

-- each with its end
abbrev pub ended : List (List ℕ) → List ℕ
ended [] = []
ended (line ∷ lines) = (line ++ codes "\n") ++ ended lines

-- ---- what is so of it

-- how many lines end in a text
abbrev pub line_ends : List ℕ → ℕ
line_ends [] = 0
line_ends (b ∷ rest) = if b == 10 then 1 + line_ends rest else line_ends rest

abbrev pub IsOneLine : List ℕ → Type 0
IsOneLine line = line_ends line ≡ 0

abbrev pub count_if : List ℕ → ℕ
count_if [] = 0
count_if (b ∷ rest) = 1

abbrev pub count_other : Option Other → ℕ
count_other None = 0
count_other (Some other) = 1

-- how many things a message says: its sentences and its second place
abbrev pub things : Message → ℕ
things m = count_if m.sentence + (count_if m.more + count_other m.other)

-- a text is these lines, none of which ends within, and there are so many
pub record AreLines (text : List ℕ) (lines : List (List ℕ)) (count : ℕ) : Type 0 where
  pub whole : text ≡ ended lines
  pub single : AllByRecursion IsOneLine lines
  pub counted : length lines ≡ count
  pub ends : line_ends text ≡ count
