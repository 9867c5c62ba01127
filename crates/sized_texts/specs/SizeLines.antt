-- The sizes that a text declares: comments `# size NAME = VALUE` before its first token.
use Rattle.std.specs.Prelude.{ℕ, zero, suc, ◌==◌, Bool, true, false, not, ◌&&◌, ◌||◌, if◌then◌else◌, List, [], ◌∷◌, ◌++◌}
use Rattle.std.specs.Prelude.{codes, length, take}
use Rattle.std.specs.Prelude.{Option, Some, None, unwrap_or, Result, Ok, Err}
use Rattle.std.specs.List.{prefix_len}
use Rattle.pram_model.specs.Names.{is_keyword, is_letter, is_word, same_text}
use Rattle.pram_tokens.specs.Lexemes.{is_blank}
use Rattle.sized_texts.specs.declared.reason.Reason.{Reason}
use Rattle.sized_texts.specs.declared.reason.Reason.TheVariants as reason
use Rattle.sized_texts.specs.declared.size.Size.{Size}
use Rattle.sized_texts.specs.declared.stop.Wrong.{Wrong}
use Rattle.sized_texts.specs.Expressions.{function_atom}
use Rattle.sized_texts.specs.Front.{behind, front, number_of, past_spaces}
use Rattle.sized_texts.specs.Reading.{◌>>=◌, placed}
use Rattle.sized_texts.specs.Sizes.{value_in}

-- the first token behind white space
abbrev pub first_token : List ℕ → List ℕ
first_token text = front (past_spaces text)

-- what is behind it, and behind white space
abbrev pub then_text : List ℕ → List ℕ
then_text text = past_spaces (behind (past_spaces text))

abbrev pub is_none : {A : Type 0} → Option A → Bool
is_none None = true
is_none (Some _) = false

abbrev pub begins_word : List ℕ → Bool
begins_word [] = false
begins_word (b ∷ rest) = is_word b

abbrev pub begins_name : List ℕ → Bool
begins_name [] = false
begins_name (b ∷ rest) = is_letter b

-- a word and what is behind the `=` behind it
abbrev pub before_equals : List ℕ → List ℕ → Option (List ℕ × List ℕ)
before_equals word [] = None
before_equals word (b ∷ rest) = if b == 61 then Some (word, rest) else None

-- the word of a size line and what is behind its `=`: a comment is one if it begins with `size WORD =`
abbrev pub line_of : List ℕ → Option (List ℕ × List ℕ)
line_of comment =
    if same_text (codes "size") (first_token comment) && begins_word (first_token (then_text comment))
    then before_equals (first_token (then_text comment)) (then_text (then_text comment)) else None

-- the number that is all of a text but white space
abbrev pub number_by : (token rest : List ℕ) → Result ℕ Reason
number_by [] rest = Err reason.BadLine
number_by (b ∷ token) [] = number_of (b ∷ token)
number_by (b ∷ token) (c ∷ rest) = Err reason.BadLine

abbrev pub number_in : List ℕ → Result ℕ Reason
number_in text = number_by (first_token text) (then_text text)

-- The number of a size line with that word and that text behind `=`, where these sizes are declared before it: the word is a name, no
-- keyword and no function, and new.
abbrev pub declaration : List Size → (word text : List ℕ) → Result ℕ Reason
declaration sizes word text =
    if not (begins_name word) then Err reason.BadLine
    else (if is_keyword word || not (is_none (function_atom word)) then Err reason.Keyword
    else (if not (is_none (value_in sizes word)) then Err reason.Repeated else number_in text))

-- a size of that name, whose number is the given one, if one is given
abbrev pub size_of : List Size → List ℕ → ℕ → Size
size_of given name n = record { name = name; value = unwrap_or (value_in given name) n }

-- the sizes behind a comment, where so many bytes are left
abbrev pub declare : (given sizes : List Size) → (left : ℕ) → Option (List ℕ × List ℕ) → Result (List Size) Wrong
declare given sizes left None = Ok sizes
declare given sizes left (Some line) =
    placed left (declaration sizes line.0 line.1) >>= λ n. Ok (sizes ++ size_of given line.0 n ∷ [])

-- how many bytes are left of a line
abbrev pub comment_length : List ℕ → ℕ
comment_length = prefix_len (λ b. not (b == 10))

-- The sizes that are declared before the first token: white space is passed over, and each comment is looked at, of which the first
-- `skip` bytes are behind us.
abbrev pub head : List Size → List Size → (skip : ℕ) → List ℕ → Result (List Size) Wrong
head given sizes skip [] = Ok sizes
head given sizes (suc n) (b ∷ rest) = head given sizes n rest
head given sizes zero (b ∷ rest) =
    if is_blank b then head given sizes 0 rest
    else (if b == 35
    then (declare given sizes (length (b ∷ rest)) (line_of (take (comment_length rest) rest)) >>= λ more.
    head given more (comment_length rest) rest)
    else Ok sizes)

-- the sizes of a text, where those numbers are given
abbrev pub sizes_of : List Size → List ℕ → Result (List Size) Wrong
sizes_of given text = head given [] 0 text
