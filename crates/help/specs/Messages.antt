-- What there is to say of a refusal, and its text.
use Rattle.std.specs.Prelude.{ℕ, List, [], ◌∷◌, ◌++◌, Option, Some, None, codes, map}
use Rattle.std.specs.Option.{option_map}
use Rattle.text_places.specs.Excerpts.{excerpt, line_excerpt}
use Rattle.help.specs.declared.message as rust
use Rattle.help.specs.declared.message.Other.{Other}
use Rattle.help.specs.declared.message.Other.TheVariants.{Begins, Ends}
use Rattle.help.specs.declared.message.Point.{Point}
use Rattle.help.specs.declared.message.Point.TheVariants.{Byte, Line}

-- Sentences are without the ends of their lines.
pub record Message : Type 0 where
  -- the place that it is about
  pub place : Option Point
  -- what it says, and nothing where there is nothing to say
  pub sentence : List ℕ
  -- a second sentence, or nothing
  pub more : List ℕ
  -- a second place, of which the sentence speaks
  pub other : Option Other
  -- what could stand where the refusal is, if that is known
  pub expected : List (List ℕ)
  -- the name that was meant, if one is near
  pub meant : Option (List ℕ)

abbrev pub message_is : rust.Message.Message → Message
message_is m = record {
  place = m.place;
  sentence = m.sentence.items;
  more = m.more.items;
  other = m.other;
  expected = map (λ v. v.items) m.expected.items;
  meant = option_map (λ v. v.items) m.meant;
}

-- ---- messages by their parts

-- a sentence about a place
abbrev pub said : Option Point → List ℕ → Message
said place sentence = record { place = place; sentence = sentence; more = []; other = None; expected = []; meant = None }

abbrev pub nothing : Message
nothing = said None []

-- and a second sentence
abbrev pub with_more : Message → List ℕ → Message
with_more m more = record {
  place = m.place;
  sentence = m.sentence;
  more = more;
  other = m.other;
  expected = m.expected;
  meant = m.meant;
}

-- and a second place
abbrev pub with_other : Message → Other → Message
with_other m other = record {
  place = m.place;
  sentence = m.sentence;
  more = m.more;
  other = Some other;
  expected = m.expected;
  meant = m.meant;
}

-- and what could stand there
abbrev pub with_expected : Message → List (List ℕ) → Message
with_expected m expected = record {
  place = m.place;
  sentence = m.sentence;
  more = m.more;
  other = m.other;
  expected = expected;
  meant = m.meant;
}

-- and the name that was meant
abbrev pub with_meant : Message → Option (List ℕ) → Message
with_meant m meant = record {
  place = m.place;
  sentence = m.sentence;
  more = m.more;
  other = m.other;
  expected = m.expected;
  meant = meant;
}

-- ---- its text

-- a place with its line
abbrev pub place_text : (name bytes : List ℕ) → Option Point → List ℕ
place_text name bytes None = []
place_text name bytes (Some (Byte at)) = excerpt name bytes at
place_text name bytes (Some (Line line)) = line_excerpt name bytes line

abbrev pub other_text : (name bytes : List ℕ) → Option Other → List ℕ
other_text name bytes None = []
other_text name bytes (Some (Begins at)) = excerpt name bytes at
other_text name bytes (Some (Ends at)) = excerpt name bytes at

-- the end of a line, and a colon before it where a place follows
abbrev pub line_end : Option Other → List ℕ
line_end None = codes "\n"
line_end (Some other) = codes ":\n"

abbrev pub whole_line : List ℕ → Option Other → List ℕ
whole_line sentence other = sentence ++ line_end other

-- a sentence on a line, where there is one
abbrev pub sentence_line : List ℕ → Option Other → List ℕ
sentence_line [] other = []
sentence_line (b ∷ rest) other = whole_line (b ∷ rest) other

-- the second sentence, and the second place
abbrev pub rest_text : (name bytes : List ℕ) → Message → List ℕ
rest_text name bytes m = sentence_line m.more None ++ other_text name bytes m.other

abbrev pub said_text : (name bytes : List ℕ) → Message → List ℕ
said_text name bytes m = sentence_line m.sentence m.other ++ rest_text name bytes m

-- the place with its line, the sentence, and what else there is, of the text of that name
abbrev pub message_text : (name bytes : List ℕ) → Message → List ℕ
message_text name bytes m = place_text name bytes m.place ++ said_text name bytes m
