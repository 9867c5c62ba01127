-- Comments that begin as a size line and are none.
use Rattle.std.specs.Prelude.{ℕ, zero, suc, ◌+◌, ◌-◌, ◌==◌, Bool, ◌&&◌, if◌then◌else◌, List, [], ◌∷◌, codes, length, take, Option, Some, None}
use Rattle.pram_model.specs.Names.{same_text}
use Rattle.pram_tokens.specs.Lexemes.{is_blank}
use Rattle.sized_texts.specs.SizeLines.{begins_word, comment_length, first_token, is_none, line_of, then_text}

-- a comment begins with `size`, and is no size line
abbrev pub is_false : List ℕ → Bool
is_false comment = same_text (codes "size") (first_token comment) && is_none (line_of comment)

-- what stands there where a size line goes on otherwise: what is behind `size`, where that is no word, and else what is behind the word
abbrev pub stray : List ℕ → List ℕ
stray comment = if begins_word (first_token (then_text comment)) then then_text (then_text comment) else then_text comment

-- where that stands, of a comment that begins behind that offset
abbrev pub stray_at : (at : ℕ) → List ℕ → ℕ
stray_at at comment = at + 1 + (length comment - length (stray comment))

-- That place of the first such comment before the first token, in a text that begins at that offset, of which the first `skip` bytes are
-- behind us.
abbrev pub false_from : (at skip : ℕ) → List ℕ → Option ℕ
false_from at skip [] = None
false_from at (suc n) (b ∷ rest) = false_from (at + 1) n rest
false_from at zero (b ∷ rest) =
    if is_blank b then false_from (at + 1) 0 rest
    else (if b == 35
    then (if is_false (take (comment_length rest) rest) then Some (stray_at at (take (comment_length rest) rest))
    else false_from (at + 1) (comment_length rest) rest)
    else None)

abbrev pub false_line : List ℕ → Option ℕ
false_line text = false_from 0 0 text
