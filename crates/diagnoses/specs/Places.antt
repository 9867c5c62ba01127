-- What stands at a place of a text, and how it is quoted.
use Rattle.std.specs.Prelude.{ℕ, ◌==◌, ◌&&◌, ◌||◌, Bool, if◌then◌else◌, List, ◌++◌, codes, drop, slice_index, take}
use Rattle.std.specs.List.{prefix_len}
use Rattle.pram_model.specs.Names.{is_word}
use Rattle.text_places.specs.Excerpts.{shown}

-- whether two bytes are a symbol: `:=` `<=` `>=` `..` `<>`
abbrev pub is_wide : (first second : ℕ) → Bool
is_wide first second =
    ((second == 61) && ((first == 58) || (first == 60) || (first == 62)))
    || ((second == 46) && (first == 46)) || ((second == 62) && (first == 60))

-- the word or symbol at the front: all letters, digits and `_` there, or else a symbol of two bytes, or else one byte
abbrev pub first_token : List ℕ → List ℕ
first_token text =
    if is_word (slice_index text 0) then take (prefix_len is_word text) text
    else (if is_wide (slice_index text 0) (slice_index text 1) then take 2 text else take 1 text)

-- the word or symbol that begins at a place, and nothing at the end of the text
abbrev pub token_at : List ℕ → ℕ → List ℕ
token_at text at = first_token (drop at text)

abbrev pub opened : List ℕ → List ℕ
opened text = codes "\"" ++ shown text

-- a text in quotation marks, as it is shown
abbrev pub quoted : List ℕ → List ℕ
quoted text = opened text ++ codes "\""
