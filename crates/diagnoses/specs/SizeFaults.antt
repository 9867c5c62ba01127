-- What is said of a text with sizes that has no expansion: E19.
use Rattle.std.specs.Prelude.{ℕ, ◌-◌, ◌==◌, ◌&&◌, ◌||◌, not, nat_le, Bool, if◌then◌else◌, List, [], ◌∷◌, ◌++◌, Some, codes, length}
use Rattle.std.specs.Prelude.{slice_index}
use Rattle.pram_model.specs.Names.{is_digit, is_one_of}
use Rattle.help.specs.Strays.{word_before}
use Rattle.sized_texts.specs.declared.reason.Reason.{Reason}
use Rattle.sized_texts.specs.declared.reason.Reason.TheVariants as reason
use Rattle.help.specs.declared.message.Point.TheVariants.{Byte}
use Rattle.help.specs.Messages.{Message, said}
use Rattle.diagnoses.specs.declared.source.Source.{Source}
use Rattle.diagnoses.specs.Places.{quoted, token_at}

-- what a reason means, of anything but a name
abbrev pub size_sentence : Reason → List ℕ
size_sentence reason.BadLine = codes "a size line has the form \"# size NAME = VALUE\", with a value from 0 to 9223372036854775807"
size_sentence reason.Keyword = codes "a size has a name of its own: no keyword, and none of log, root and pow"
size_sentence reason.Repeated = codes "a size line above has this name already"
size_sentence reason.UnknownName = codes "no size has this name"
size_sentence reason.Unexpected = (codes "this can't stand here: a size line has a number behind its \"=\", and an expression of "
    ++ codes "sizes has numbers, names of sizes, + - * div mod, parentheses, log(..), root(..) and pow(.., ..)")
size_sentence reason.NotClosed = codes "the line ends here, and its brace is not closed"
size_sentence reason.OutOfRange = codes "this comes to a number below 0 or above 9223372036854775807"
size_sentence reason.ZeroDivisor = codes "here a number is divided by 0"
size_sentence reason.LogOfZero = codes "0 has no logarithm"
size_sentence reason.TooDeep = codes "this is one level too many: expressions of sizes nest at most 64 deep"

-- of a name
abbrev pub no_size : List ℕ → List ℕ
no_size word =
    if is_one_of (codes "sqrt" ∷ []) word then codes " is no size: write root(n)"
    else (if is_one_of (codes "lg" ∷ codes "ln" ∷ codes "log2" ∷ []) word then codes " is no size: write log(n)"
    else codes " is no size: no line \"# size NAME = VALUE\" before the program has this name")

abbrev pub unknown_size : List ℕ → List ℕ
unknown_size word = quoted word ++ no_size word

-- a digit in front, and no digit at the end
abbrev pub is_product : List ℕ → Bool
is_product word = is_digit (slice_index word 0) && not (is_digit (slice_index word (length word - 1)))

abbrev pub function_words : List (List ℕ)
function_words = codes "log" ∷ codes "root" ∷ codes "pow" ∷ []

-- one of these, a byte before that place
abbrev pub is_called : List ℕ → ℕ → Bool
is_called text at =
    nat_le at (length text) && is_one_of function_words (word_before text (at - 1))

abbrev pub is_power : (byte before : ℕ) → Bool
is_power b before = b == 94 || (b == 42 && before == 42)

-- of what can't stand in an expression of sizes, as it is written elsewhere
abbrev pub unexpected : List ℕ → ℕ → List ℕ
unexpected text at =
    let b = slice_index text at in
    if b == 47 then codes "division is \"div\": write n div 2"
    else (if is_power b (slice_index text (at - 1)) then codes "there is no sign for a power: write n * n, or pow(n, 2)"
    else (if is_product (token_at text at) then codes "between a number and a name stands \"*\": write 2 * n"
    else (if is_called text at then codes "log, root and pow have parentheses: write log(n)" else size_sentence reason.Unexpected)))

-- why, at that place of a text
abbrev pub reason_text : List ℕ → ℕ → Reason → List ℕ
reason_text text at reason.UnknownName = unknown_size (token_at text at)
reason_text text at reason.Unexpected = unexpected text at
reason_text text at r = size_sentence r

-- the place in the file, and why
abbrev pub size_message : Source → ℕ → Reason → Message
size_message s at r = said (Some (Byte at)) (reason_text s.bytes.items at r)
