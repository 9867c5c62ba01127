-- What JSON says of a refusal and of its message.
use Rattle.std.specs.Prelude.{ℕ, List, [], ◌∷◌, ◌++◌, Option, Some, None, codes, map}
use Rattle.serde_json.specs.Data.{Data}
use Rattle.json_texts.specs.Facts.{Field, count, letters, list, object_of, told}
use Rattle.program_texts.specs.declared.stop.Stop.{Stop}
use Rattle.help.specs.declared.message.Other.{Other}
use Rattle.help.specs.declared.message.Point.{Point}
use Rattle.help.specs.declared.message.Point.TheVariants.{Byte, Line}
use Rattle.help.specs.GnuLines.{other_note, other_place}
use Rattle.help.specs.Messages.{Message}
use Rattle.text_places.specs.Places.{place_of}
use Rattle.json_texts.specs.RefusalFacts.{stop_fields}

-- ---- places

-- a byte of the file's text, or a line of it
abbrev pub point_fields : (source : List ℕ) → Point → List Field
point_fields source (Byte at) =
    let place = place_of source at in
    (codes "line", count place.line) ∷ (codes "column", count place.column) ∷ (codes "offset", count at) ∷ []
point_fields source (Line line) = (codes "line", count line) ∷ []

abbrev pub point_facts : (name source : List ℕ) → Point → Data
point_facts name source p = object_of ((codes "file", told name) ∷ point_fields source p)

-- where there is one
abbrev pub place_field : (name source : List ℕ) → Option Point → List Field
place_field name source None = []
place_field name source (Some p) = (codes "place", point_facts name source p) ∷ []

-- the line of a listing's instruction stands beside its number
abbrev pub line_field : Option Point → List Field
line_field None = []
line_field (Some (Byte at)) = []
line_field (Some (Line line)) = (codes "line", count line) ∷ []

-- ---- sentences

-- a text under a name, where there is one
abbrev pub text_field : (name text : List ℕ) → List Field
text_field name [] = []
text_field name (b ∷ rest) = (name, letters (b ∷ rest)) ∷ []

-- a list under a name, if anything is in it
abbrev pub list_field : (name : List ℕ) → List Data → List Field
list_field name [] = []
list_field name (d ∷ ds) = (name, list (d ∷ ds)) ∷ []

abbrev pub meant_field : Option (List ℕ) → List Field
meant_field None = []
meant_field (Some name) = (codes "meant", told name) ∷ []

-- ---- notes

abbrev pub note_facts : (name source sentence : List ℕ) → Option Point → Data
note_facts name source sentence p = object_of ((codes "message", letters sentence) ∷ place_field name source p)

-- the second sentence, with the first place
abbrev pub more_notes : (name source more : List ℕ) → Option Point → List Data
more_notes name source [] p = []
more_notes name source (b ∷ rest) p = note_facts name source (b ∷ rest) p ∷ []

-- the second place
abbrev pub other_notes : (name source : List ℕ) → Option Other → List Data
other_notes name source None = []
other_notes name source (Some other) = note_facts name source (other_note other) (Some (other_place other)) ∷ []

abbrev pub notes : (name source : List ℕ) → Message → List Data
notes name source m = more_notes name source m.more m.place ++ other_notes name source m.other

-- ---- all of it

-- the place, the sentence and what else there is; absent where there is nothing
abbrev pub said_fields : (name source : List ℕ) → Message → List Field
said_fields name source m =
    line_field m.place ++ (text_field (codes "message") m.sentence ++ place_field name source m.place)

abbrev pub known_fields : (name source : List ℕ) → Message → List Field
known_fields name source m =
    list_field (codes "expected") (map letters m.expected) ++ (meant_field m.meant ++ list_field (codes "notes") (notes name source m))

abbrev pub message_fields : (name source : List ℕ) → Message → List Field
message_fields name source m = said_fields name source m ++ known_fields name source m

-- why a call stops, and what there is to say of it, where the text of this file was refused
abbrev pub refusal_fields : (name source : List ℕ) → Stop → Message → List Field
refusal_fields name source why m = stop_fields source why ++ message_fields name source m

abbrev pub refusal_facts : (name source : List ℕ) → Stop → Message → Data
refusal_facts name source why m = object_of (refusal_fields name source why m)
