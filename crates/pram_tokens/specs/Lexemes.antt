-- What stands at the front of a text: white space, a comment, a token, or nothing that is one.
use Rattle.std.specs.Prelude.{ℕ, ◌+◌, ◌-◌, ◌*◌, ◌≤◌, pos, Bool, not, ◌||◌, if◌then◌else◌, ◌==◌, nat_lt, List, [], ◌∷◌, take, drop}
use Rattle.std.specs.Prelude.{slice_index, Option, Some, None, codes, length}
use Rattle.std.specs.List.{prefix_len}
use Rattle.std.specs.Option.{option_or}
use Rattle.pram_tokens.specs.declared.lexer.Class.{Class}
use Rattle.pram_tokens.specs.declared.lexer.Class.TheVariants as class
use Rattle.pram_tokens.specs.declared.lexer.Lexeme.{Lexeme}
use Rattle.pram_tokens.specs.declared.lexer.Lexeme.TheVariants as lexeme
use Rattle.pram_tokens.specs.declared.token.Binary.TheVariants as op
use Rattle.pram_tokens.specs.declared.token.Location.{Location}
use Rattle.pram_tokens.specs.declared.token.Mark.TheVariants as mark
use Rattle.pram_tokens.specs.declared.token.Opening.TheVariants as opening
use Rattle.pram_tokens.specs.declared.token.Token.{Token}
use Rattle.pram_tokens.specs.declared.token.Token.TheVariants as token
use Rattle.pram_tokens.specs.declared.words.Fixed.{Fixed}
use Rattle.pram_tokens.specs.declared.words.Fixed.TheVariants as fixed
use Rattle.pram_model.specs.Names.{is_digit, is_letter, is_word, same_text}

-- what stands beside a spelling in such a list
abbrev pub lookup : List (List ℕ × Fixed) → List ℕ → Option Fixed
lookup [] word = None
lookup (entry ∷ rest) word = if same_text entry.0 word then Some entry.1 else lookup rest word

-- the keywords around and between declarations and statements
abbrev pub program_words : List (List ℕ × Fixed)
program_words =
    (codes "rule", fixed.Mark mark.Rule) ∷ (codes "procs", fixed.Mark mark.Procs) ∷ (codes "shared", fixed.Mark mark.Shared)
    ∷ (codes "var", fixed.Mark mark.Var)
    ∷ (codes "local", fixed.Mark mark.Local) ∷ (codes "begin", fixed.Mark mark.Begin) ∷ (codes "end", fixed.Mark mark.End) ∷ []

-- the keywords of statements
abbrev pub statement_words : List (List ℕ × Fixed)
statement_words =
    (codes "for", fixed.Opening opening.For) ∷ (codes "to", fixed.Mark mark.To) ∷ (codes "do", fixed.Mark mark.Do)
    ∷ (codes "pardo", fixed.Mark mark.Pardo)
    ∷ (codes "while", fixed.Opening opening.While) ∷ (codes "if", fixed.Opening opening.If) ∷ (codes "then", fixed.Mark mark.Then)
    ∷ (codes "else", fixed.Mark mark.Else)
    ∷ (codes "print", fixed.Opening opening.Print) ∷ []

-- the keywords that are operators
abbrev pub operator_words : List (List ℕ × Fixed)
operator_words =
    (codes "and", fixed.Binary op.And) ∷ (codes "or", fixed.Binary op.Or) ∷ (codes "not", fixed.Not) ∷ (codes "div", fixed.Binary op.Divide)
    ∷ (codes "mod", fixed.Binary op.Remainder) ∷ []

-- the symbols of two bytes
abbrev pub wide_symbols : List (List ℕ × Fixed)
wide_symbols =
    (codes ":=", fixed.Mark mark.Becomes) ∷ (codes "..", fixed.Mark mark.Range) ∷ (codes "<>", fixed.Binary op.Unequal)
    ∷ (codes "<=", fixed.Binary op.AtMost)
    ∷ (codes ">=", fixed.Binary op.AtLeast) ∷ []

-- the symbols of one byte
abbrev pub narrow_symbols : List (List ℕ × Fixed)
narrow_symbols =
    (codes ";", fixed.Mark mark.Semicolon) ∷ (codes "[", fixed.Mark mark.OpenBracket) ∷ (codes "]", fixed.Mark mark.CloseBracket)
    ∷ (codes "(", fixed.Mark mark.OpenParen)
    ∷ (codes ")", fixed.Mark mark.CloseParen) ∷ (codes "+", fixed.Binary op.Add) ∷ (codes "-", fixed.Binary op.Subtract)
    ∷ (codes "*", fixed.Binary op.Multiply)
    ∷ (codes "=", fixed.Binary op.Equal) ∷ (codes "<", fixed.Binary op.Less) ∷ (codes ">", fixed.Binary op.Greater) ∷ []

-- the keyword of a spelling
abbrev pub keyword : List ℕ → Option Fixed
keyword word = option_or (option_or (lookup program_words word) (lookup statement_words word)) (lookup operator_words word)

-- the symbol of two bytes
abbrev pub wide_symbol : List ℕ → Option Fixed
wide_symbol = lookup wide_symbols

-- the symbol of one byte
abbrev pub narrow_symbol : List ℕ → Option Fixed
narrow_symbol = lookup narrow_symbols

-- the token of a keyword or symbol that stands there
abbrev pub token_of : Fixed → Location → Token
token_of (fixed.Binary o) place = token.Binary o
token_of fixed.Not place = token.Not
token_of (fixed.Opening o) place = token.Opening o place
token_of (fixed.Mark m) place = token.Mark m

-- white space: space, tab, LF, CR
abbrev pub is_blank : ℕ → Bool
is_blank b = b == 32 || b == 9 || b == 10 || b == 13

-- what a comment goes on with: any byte but LF
abbrev pub is_comment : ℕ → Bool
is_comment b = not (b == 10)

-- what a number, a word or a comment goes on with
abbrev pub is_in : Class → ℕ → Bool
is_in class.Digit = is_digit
is_in class.Word = is_word
is_in class.Comment = is_comment

-- the length of the longest front whose bytes are all of the class
abbrev pub span : Class → List ℕ → ℕ
span c = prefix_len (is_in c)

-- the value of digits behind digits of value n
abbrev pub value_after : ℕ → List ℕ → ℕ
value_after n [] = n
value_after n (b ∷ rest) = value_after (n * 10 + (b - 48)) rest

-- the greatest number of a text
abbrev pub largest : ℕ
largest = 9223372036854775807

-- The lexeme of a longest run of digits, and what is behind it: no token if the number is too large, or if a letter or `_` follows at once.
abbrev pub number_lexeme : Location → (digits rest : List ℕ) → Lexeme
number_lexeme place digits rest =
    if nat_lt largest (value_after 0 digits) || is_word (slice_index rest 0) then lexeme.Bad
    else lexeme.Token (token.Number (record { value = pos (value_after 0 digits); location = place })) (length digits)

-- the lexeme of a longest run of letters, digits and `_`: a keyword if the whole run is one
abbrev pub word_lexeme : Location → List ℕ → Option Fixed → Lexeme
word_lexeme place word None = lexeme.Token (token.Name (record { text = word; location = place })) (length word)
word_lexeme place word (Some f) = lexeme.Token (token_of f place) (length word)

-- the lexeme of a symbol of one byte, or of none
abbrev pub narrow_lexeme : Location → Option Fixed → Lexeme
narrow_lexeme place None = lexeme.Bad
narrow_lexeme place (Some f) = lexeme.Token (token_of f place) 1

-- the lexeme of a symbol of two bytes, or else of that one
abbrev pub wide_lexeme : Location → (wide narrow : Option Fixed) → Lexeme
wide_lexeme place None narrow = narrow_lexeme place narrow
wide_lexeme place (Some f) narrow = lexeme.Token (token_of f place) 2

-- the longest symbol of two bytes, of which the second is 0 past the end
abbrev pub symbol_lexeme : Location → (first second : ℕ) → Lexeme
symbol_lexeme place first second = wide_lexeme place (wide_symbol (first ∷ second ∷ [])) (narrow_symbol (first ∷ []))

-- what stands at the front of a text that is not empty, which begins there
unfoldable pub lexeme_at : Location → List ℕ → Lexeme
lexeme_at place text =
    let b = slice_index text 0 in
    if is_blank b then lexeme.Blank 1
    else (if b == 35 then lexeme.Blank (span class.Comment text)
    else (if is_digit b then number_lexeme place (take (span class.Digit text) text) (drop (span class.Digit text) text)
    else (if is_letter b then word_lexeme place (take (span class.Word text) text) (keyword (take (span class.Word text) text))
    else symbol_lexeme place b (slice_index text 1))))

-- a lexeme is some part of the text
abbrev pub IsWithin : Lexeme → List ℕ → Type 0
IsWithin (lexeme.Blank n) text = (1 ≤ n) × (n ≤ length text)
IsWithin (lexeme.Token t n) text = (1 ≤ n) × (n ≤ length text)
IsWithin lexeme.Bad text = Unit {0}
