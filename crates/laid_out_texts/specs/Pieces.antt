-- The pieces of a text: comments, words, numbers, braces and signs. Whatever stands between them is white space.
use Rattle.std.specs.Prelude.{ℕ, zero, suc, ◌+◌, ◌-◌, ◌==◌, Bool, true, false, not, ◌||◌, ◌&&◌, if◌then◌else◌, List, [], ◌∷◌, ◌++◌}
use Rattle.std.specs.Prelude.{map, max, take, slice_index}
use Rattle.pram_model.specs.Names.{is_word}
use Rattle.pram_tokens.specs.Lexemes.{is_blank}
use Rattle.sized_texts.specs.SizeLines.{comment_length}
use Rattle.laid_out_texts.specs.declared.piece.Piece.{Piece as Slice}
use Rattle.laid_out_texts.specs.declared.piece.Place.{Place}
use Rattle.laid_out_texts.specs.declared.piece.Place.TheVariants as place

-- the bytes of a piece, and where it stands behind the piece before it
pub record Piece : Type 0 where
  pub place : Place
  pub bytes : List ℕ

abbrev pub piece_of : Slice → Piece
piece_of p = record { place = p.place; bytes = p.bytes.now }

abbrev pub seen : List Slice → List Piece
seen = map piece_of

-- where a piece stands if the line ends once more before it
abbrev pub further : Place → Place
further place.Beside = place.Below
further _ = place.Apart

-- where it stands behind that byte of white space too
abbrev pub behind_blank : Place → ℕ → Place
behind_blank p b = if b == 10 then further p else p

-- what a word begins with: a letter, a digit, `_` or a brace
abbrev pub begins_word : ℕ → Bool
begins_word b = is_word b || b == 123

-- whether what follows a byte is in a brace
abbrev pub in_brace : Bool → ℕ → Bool
in_brace true b = not (b == 125)
in_brace false b = b == 123

-- the length of a word at the front, in a brace or not: letters, digits, `_` and braces with all that is in them
abbrev pub word_length : (brace : Bool) → List ℕ → ℕ
word_length brace [] = 0
word_length brace (b ∷ rest) = if brace || begins_word b then suc (word_length (in_brace brace b) rest) else 0

-- the signs of two bytes: `:=`, `..`, `<>`, `<=` and `>=`
abbrev pub is_wide : (first second : ℕ) → Bool
is_wide first second =
    (second == 61 && (first == 58 || (first == 60 || first == 62))) || ((first == 46 && second == 46) || (first == 60 && second == 62))

-- the length of the piece at the front of a text that begins with no white space; that of a comment goes to the line's end
abbrev pub piece_length : List ℕ → ℕ
piece_length text =
    if slice_index text 0 == 35 then max (comment_length text) 1
    else (if begins_word (slice_index text 0) then max (word_length false text) 1
    else (if is_wide (slice_index text 0) (slice_index text 1) then 2 else 1))

-- how many bytes there are up to the last one that is no white space, where so many bytes, of which so many are kept, are before them
abbrev pub kept_from : (at kept : ℕ) → List ℕ → ℕ
kept_from at kept [] = kept
kept_from at kept (b ∷ rest) = kept_from (at + 1) (if is_blank b then kept else at + 1) rest

-- bytes without the white space at their end
abbrev pub trimmed : List ℕ → List ℕ
trimmed bytes = take (kept_from 0 0 bytes) bytes

-- the piece at the front
abbrev pub front : Place → List ℕ → Piece
front p text = record { place = p; bytes = trimmed (take (piece_length text) text) }

-- The pieces of a text, of which the first `skip` bytes are behind us; what comes first stands there.
abbrev pub pieces : (p : Place) → (skip : ℕ) → List ℕ → List Piece
pieces p skip [] = []
pieces p (suc n) (b ∷ rest) = pieces p n rest
pieces p zero (b ∷ rest) =
    if is_blank b then pieces (behind_blank p b) 0 rest
    else front p (b ∷ rest) ∷ pieces place.Beside (piece_length (b ∷ rest) - 1) rest

abbrev pub pieces_of : List ℕ → List Piece
pieces_of text = pieces place.Beside 0 text

-- pieces one behind the other, each with a line's end behind it
abbrev pub lines : List Piece → List ℕ
lines [] = []
lines (p ∷ ps) = p.bytes ++ 10 ∷ [] ++ lines ps

-- all of a text but its white space: its comments, words, numbers, braces and signs, each on a line of its own
abbrev pub listed : List ℕ → List ℕ
listed text = lines (pieces_of text)
