-- What is said of a byte that begins no token.
use Rattle.std.specs.Prelude.{ℕ, zero, suc, ◌+◌, ◌-◌, ◌==◌, ◌||◌, Bool, true, false, if◌then◌else◌, List, [], ◌∷◌, Option, Some, None}
use Rattle.std.specs.Prelude.{codes, drop, slice_index, take}
use Rattle.pram_model.specs.Names.{is_digit, is_one_of, is_word}

abbrev pub number_sentence : List ℕ
number_sentence = codes "a number is at most 9223372036854775807, and no letter follows it at once"

abbrev pub no_sentence : List ℕ
no_sentence = codes "nothing of the language begins so"

abbrev pub of_exclamation : ℕ → List ℕ
of_exclamation next =
    if next == 61 then codes "\"<>\" compares what differs" else codes "\"not\" turns a condition around"

-- a dot behind a digit
abbrev pub of_dot : ℕ → List ℕ
of_dot before = if is_digit before then codes "there are no fractions: values are whole numbers" else no_sentence

-- ---- a comma

-- `)` and `]`, `(` and `[`
abbrev pub is_closing : ℕ → Bool
is_closing b = b == 41 || b == 93

abbrev pub is_opening : ℕ → Bool
is_opening b = b == 40 || b == 91

-- where a statement or a line ends
abbrev pub is_break : ℕ → Bool
is_break b = b == 59 || b == 10

-- by the byte of that number, how many brackets were closed behind it, and what is said of the bytes before it
abbrev pub by_byte : (byte i : ℕ) → (before : ℕ → Option ℕ) → (closed : ℕ) → Option ℕ
by_byte b i before n =
    if is_closing b then before (n + 1)
    else (if is_opening b then (if n == 0 then Some i else before (n - 1)) else (if is_break b then None else before n))

-- the place of the innermost bracket that is open before a place, in the statement and on the line
abbrev pub open_before : List ℕ → (at : ℕ) → (closed : ℕ) → Option ℕ
open_before text zero n = None
open_before text (suc i) n = by_byte (slice_index text i) i (open_before text i) n

-- where the word begins that ends before a place
abbrev pub word_start : List ℕ → ℕ → ℕ
word_start text zero = 0
word_start text (suc i) = if is_word (slice_index text i) then word_start text i else suc i

-- the letters, digits and `_` at once before a place
abbrev pub word_before : List ℕ → ℕ → List ℕ
word_before text at = drop (word_start text at) (take at text)

abbrev pub no_commas : List ℕ
no_commas = codes "there are no commas: a declaration has one name, an array one subscript, a print one number"

abbrev pub choosing_words : List (List ℕ)
choosing_words = codes "min" ∷ codes "max" ∷ codes "abs" ∷ []

-- among the arguments of what has that name
abbrev pub of_call : List ℕ → List ℕ
of_call word =
    if is_one_of choosing_words word
    then codes "there are no functions min, max and abs: write \"if a < b then m := a; else m := b; end\""
    else (if is_one_of (codes "pow" ∷ []) word then codes "pow stands between braces alone, with numbers and sizes in it, as {pow(2, 3)}"
    else no_commas)

abbrev pub of_bracket : List ℕ → ℕ → List ℕ
of_bracket text i =
    if slice_index text i == 91 then codes "an array has one subscript: a[(i - 1) * n + j] is row i, column j of n columns"
    else of_call (word_before text i)

abbrev pub in_bracket : List ℕ → Option ℕ → List ℕ
in_bracket text None = no_commas
in_bracket text (Some i) = of_bracket text i

abbrev pub of_comma : List ℕ → ℕ → List ℕ
of_comma text at = in_bracket text (open_before text at 0)

-- ---- a brace

-- `}`, and what no expression of sizes has: a `;`, the end of a line and `{`
abbrev pub ends_brace : ℕ → Bool
ends_brace b = b == 125 || (b == 59 || (b == 10 || b == 123))

-- whether a brace is closed before any of these
abbrev pub closes : List ℕ → Bool
closes [] = false
closes (b ∷ bs) = if ends_brace b then b == 125 else closes bs

abbrev pub of_open_brace : (behind : List ℕ) → List ℕ
of_open_brace behind =
    if closes behind then codes "braces hold sizes: write a line \"# size n = 8\" above the program, before its first word"
    else codes "there are no braces: a block goes up to its \"end\", and a comment begins with \"#\""

-- ---- any byte

-- `/` `%` `&` `|` `^` `}` `"` `'` `:` `_`
abbrev pub of_symbol : ℕ → List ℕ
of_symbol b =
    if b == 47 then codes "division is \"div\", and its remainder \"mod\"; a comment begins with \"#\""
    else (if b == 37 then codes "the remainder of a division is \"mod\""
    else (if b == 38 then codes "\"and\" joins two conditions"
    else (if b == 124 then codes "\"or\" joins two conditions"
    else (if b == 94 then codes "there is no power: x * x is the square of x"
    else (if b == 125 then codes "there are no braces: a block goes up to its \"end\", and a comment begins with \"#\""
    else (if b == 34 || b == 39 then codes "there are no texts: \"print\" prints numbers"
    else (if b == 58 then codes "\":=\" assigns, and names have no types"
    else (if b == 95 then codes "a name begins with a letter" else no_sentence))))))))

-- the byte before a place, and 0 at the front
abbrev pub byte_before : List ℕ → ℕ → ℕ
byte_before text zero = 0
byte_before text (suc at) = slice_index text at

-- by a byte of a text at that place
abbrev pub sentence_of : (text : List ℕ) → (at byte : ℕ) → List ℕ
sentence_of text at b =
    if is_digit b then number_sentence
    else (if b == 33 then of_exclamation (slice_index text (at + 1))
    else (if b == 46 then of_dot (byte_before text at)
    else (if b == 44 then of_comma text at else (if b == 123 then of_open_brace (drop (at + 1) text) else of_symbol b))))

-- of the byte at a place of a text
abbrev pub stray_sentence : (text : List ℕ) → (at : ℕ) → List ℕ
stray_sentence text at = sentence_of text at (slice_index text at)
