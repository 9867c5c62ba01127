-- What stands at the front of a text: runs of bytes, and bytes that have to be the next ones. Where something else stands, the answer is
-- how many bytes are left from there on.
use Rattle.std.specs.Prelude.{◌≡◌, ℕ, ◌==◌, ℤ, Bool, not, ◌||◌, if◌then◌else◌, List, [], ◌∷◌, length, take, drop, Option, Some, None}
use Rattle.std.specs.Prelude.{Result, Ok}
use Rattle.std.specs.Prelude.{Err}
use Rattle.std.specs.List.{prefix_len}
use Rattle.pram_model.specs.Names.{is_digit, is_word}
use Rattle.pram_tokens.specs.Input.{number_of}
use Rattle.pram_tokens.specs.Lexemes.{is_blank}
use Rattle.memory_texts.specs.declared.front.Run.{Run}
use Rattle.memory_texts.specs.declared.front.Run.TheVariants as run

-- what a function answered is what is read
abbrev pub Gives : {X Y E : Type 0} → (X → Y) → Result X E → Result Y E → Type 0
Gives view (Ok x) read = read ≡ Ok (view x)
Gives view (Err e) read = read ≡ Err e

-- what a run of bytes has
abbrev pub is_of : Run → ℕ → Bool
is_of run.Line b = not (b == 10)
is_of run.Code b = not (b == 35)
is_of run.Blank b = is_blank b
is_of run.Word b = is_word b
is_of run.Numeral b = is_digit b || b == 45

-- the longest run at the front
abbrev pub front : Run → List ℕ → List ℕ
front r text = take (prefix_len (is_of r) text) text

-- what is behind it
abbrev pub behind : Run → List ℕ → List ℕ
behind r text = drop (prefix_len (is_of r) text) text

abbrev pub past_blanks : List ℕ → List ℕ
past_blanks text = behind run.Blank text

-- what is behind a byte that has to be at the front
abbrev pub expect_front : ℕ → List ℕ → Result (List ℕ) ℕ
expect_front byte [] = Err 0
expect_front byte (b ∷ rest) = if b == byte then Ok rest else Err (length (b ∷ rest))

-- what is behind a byte that has to be the next one behind white space
abbrev pub expect : ℕ → List ℕ → Result (List ℕ) ℕ
expect byte text = expect_front byte (past_blanks text)

-- a number with what is behind it, where there is one
abbrev pub number_then : Option ℤ → (rest : List ℕ) → (left : ℕ) → Result (ℤ × List ℕ) ℕ
number_then (Some z) rest left = Ok (z, rest)
number_then None rest left = Err left

-- the number at the front, and what is behind it
abbrev pub number_front : List ℕ → Result (ℤ × List ℕ) ℕ
number_front text = number_then (number_of (front run.Numeral text)) (behind run.Numeral text) (length text)

-- the number that has to be the next thing behind white space
abbrev pub number_next : List ℕ → Result (ℤ × List ℕ) ℕ
number_next text = number_front (past_blanks text)
