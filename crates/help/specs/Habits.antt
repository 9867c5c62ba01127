-- What a token that can't stand at its place would be in another language, and what is said of it.
use Rattle.std.specs.Prelude.{ℕ, Bool, true, false, ◌&&◌, ◌||◌, not, if◌then◌else◌, List, [], ◌∷◌, ◌++◌, Option, Some, None, codes}
use Rattle.std.specs.Option.{option_or}
use Rattle.pram_model.specs.Names.{is_one_of}
use Rattle.pram_tokens.specs.declared.token.Binary.{Binary}
use Rattle.pram_tokens.specs.declared.token.Binary.TheVariants as binary
use Rattle.pram_tokens.specs.declared.token.Mark.{Mark}
use Rattle.pram_tokens.specs.declared.token.Mark.TheVariants as mark
use Rattle.pram_tokens.specs.declared.token.Token.{Token}
use Rattle.pram_tokens.specs.declared.token.Token.TheVariants as token
use Rattle.pram_tokens.specs.declared.words.Fixed.TheVariants as fixed
use Rattle.help.specs.declared.choice.Choice.{Choice}
use Rattle.help.specs.declared.choice.Choice.TheVariants as choice
use Rattle.help.specs.declared.habit.Habit.{Habit}
use Rattle.help.specs.declared.habit.Habit.TheVariants as habit
use Rattle.help.specs.declared.sign.Sign.{Sign}
use Rattle.help.specs.declared.sign.Sign.TheVariants as sign
use Rattle.help.specs.Signs.{could}

-- what is said behind the word or symbol
abbrev pub habit_text : Habit → List ℕ
habit_text habit.ElseIf = codes " is no word of the language: write \"else if\", and an \"end\" for each \"if\""
habit_text habit.BlockEnd = codes " is no word of the language: a block ends with \"end\""
habit_text habit.Compare = codes " can't stand here: one \"=\" compares, and \":=\" assigns"
habit_text habit.Assign = codes " can't stand here: \":=\" assigns, as in x := x + 1"
habit_text habit.Declaration = codes " can't stand here: declarations stand before \"begin\""
habit_text habit.Local = codes " can't stand here: locals are declared first in the body of a pardo"
habit_text habit.Do = codes " can't stand here: the body begins with \"do\""
habit_text habit.Then = codes " can't stand here: what an \"if\" does begins with \"then\""
habit_text habit.Pardo = codes " can't stand here: the body of a range begins with \"pardo\""
habit_text habit.Begin = codes " can't stand here: a program has one \"begin\", and a block goes up to its \"end\""
habit_text habit.Call = codes " can't stand here: there are no functions, and a subscript stands between [ and ]"
habit_text habit.Keyword = codes " is a keyword, and no name"
habit_text habit.Word = codes " is no word of the language: a statement is an assignment, print, while, if or for"
habit_text habit.Jump = codes " is no word of the language: a loop ends where its test fails"
habit_text habit.Parallel = codes " is no word of the language: a pardo is written \"for 1 <= i <= 8 pardo\""
habit_text habit.Function = codes " is no function of the language: write an \"if\" in its place"
habit_text habit.SizeFunction = codes " stands between braces alone, with numbers and sizes in it, as {log(8)}"
habit_text habit.Capitals = codes " is a name here: keywords have small letters"
habit_text habit.In = codes " can't stand here: a loop is \"for i := 1 to 8 do\", and a pardo \"for 1 <= i <= 8 pardo\""
habit_text habit.Semicolon = (codes " can't stand here: there is none behind \"begin\", \"do\", \"then\", \"else\", \"pardo\" or "
    ++ codes "\"end\", and no two in a row")
habit_text habit.Range = codes " can't stand here: a pardo is written \"for 1 <= i <= 8 pardo\""
habit_text habit.Value = codes " can't stand here: a declaration has no value, and all begin with 0"
habit_text habit.Bounds = codes " can't stand here: an array has a first and a last subscript, as a[1..8]"
habit_text habit.Constant = codes " can't stand here: a number has to, or with a first line \"# size n = 8\" a size, as {n}"
habit_text habit.Subscript = (codes " can't stand here: an array has one subscript, and a[(i - 1) * n + j] is row i, column j of "
    ++ codes "n columns")
habit_text habit.Order = codes " can't stand here: the comparisons are \">=\" and \"<=\""
habit_text habit.Chain = codes " can't stand here: comparisons don't chain, write 1 < m and m < 3"
habit_text habit.Negative = codes " can't stand here: a bound is a number from 0 on"
habit_text habit.Frame = codes " can't stand here: a program begins with \"rule crew; procs 8;\""

-- ---- by the token before

-- keywords in capitals: of the frame of a program, of its statements, and of what stands in these
abbrev pub frame_words : List (List ℕ)
frame_words = codes "RULE" ∷ codes "PROCS" ∷ codes "SHARED" ∷ codes "VAR" ∷ codes "LOCAL" ∷ codes "BEGIN" ∷ codes "END" ∷ []

abbrev pub block_words : List (List ℕ)
block_words = codes "FOR" ∷ codes "TO" ∷ codes "DO" ∷ codes "PARDO" ∷ codes "WHILE" ∷ codes "IF" ∷ codes "THEN" ∷ []

abbrev pub inner_words : List (List ℕ)
inner_words = codes "ELSE" ∷ codes "PRINT" ∷ codes "AND" ∷ codes "OR" ∷ codes "NOT" ∷ codes "DIV" ∷ codes "MOD" ∷ []

-- and with a capital in front
abbrev pub frame_titles : List (List ℕ)
frame_titles = codes "Rule" ∷ codes "Procs" ∷ codes "Shared" ∷ codes "Var" ∷ codes "Local" ∷ codes "Begin" ∷ codes "End" ∷ []

abbrev pub block_titles : List (List ℕ)
block_titles = codes "For" ∷ codes "To" ∷ codes "Do" ∷ codes "Pardo" ∷ codes "While" ∷ codes "If" ∷ codes "Then" ∷ []

abbrev pub inner_titles : List (List ℕ)
inner_titles = codes "Else" ∷ codes "Print" ∷ codes "And" ∷ codes "Or" ∷ codes "Not" ∷ codes "Div" ∷ codes "Mod" ∷ []

abbrev pub is_upper : List ℕ → Bool
is_upper word = is_one_of frame_words word || (is_one_of block_words word || is_one_of inner_words word)

abbrev pub is_title : List ℕ → Bool
is_title word = is_one_of frame_titles word || (is_one_of block_titles word || is_one_of inner_titles word)

abbrev pub is_capitals : List ℕ → Bool
is_capitals word = is_upper word || is_title word

-- a name that is a word of another language
abbrev pub else_if_words : List (List ℕ)
else_if_words = codes "elsif" ∷ codes "elseif" ∷ codes "elif" ∷ []

abbrev pub end_words : List (List ℕ)
end_words = codes "endif" ∷ codes "endwhile" ∷ codes "endfor" ∷ codes "fi" ∷ codes "od" ∷ codes "done" ∷ []

abbrev pub pardo_words : List (List ℕ)
pardo_words = codes "forall" ∷ codes "foreach" ∷ codes "parfor" ∷ codes "parallel" ∷ []

abbrev pub jump_words : List (List ℕ)
jump_words = codes "break" ∷ codes "continue" ∷ codes "exit" ∷ []

abbrev pub word_habit : List ℕ → Option Habit
word_habit word =
    if is_one_of else_if_words word then Some habit.ElseIf
    else (if is_one_of end_words word then Some habit.BlockEnd
    else (if is_one_of pardo_words word then Some habit.Parallel
    else (if is_one_of jump_words word then Some habit.Jump else (if is_capitals word then Some habit.Capitals else None))))

abbrev pub name_habit : Token → Option Habit
name_habit (token.Name x) = word_habit x.text
name_habit _ = None

abbrev pub behind_name : Token → Option Habit
behind_name (token.Mark mark.OpenParen) = Some habit.Call
behind_name _ = None

abbrev pub behind_equal : Token → Option Habit
behind_equal (token.Binary binary.Equal) = Some habit.Compare
behind_equal (token.Binary binary.Less) = Some habit.Order
behind_equal (token.Binary binary.Greater) = Some habit.Order
behind_equal _ = None

abbrev pub behind_bracket : Token → Option Habit
behind_bracket (token.Mark mark.OpenBracket) = Some habit.Subscript
behind_bracket _ = None

-- in a declaration alone
abbrev pub behind_bound : Token → Option Habit
behind_bound (token.Binary binary.Subtract) = Some habit.Negative
behind_bound _ = None

-- in a range alone
abbrev pub behind_at_most : Token → Option Habit
behind_at_most (token.Number n) = Some habit.Range
behind_at_most _ = None

-- a token behind another one
abbrev pub behind : Token → Token → Option Habit
behind (token.Name x) t = behind_name t
behind (token.Binary binary.Equal) t = behind_equal t
behind (token.Mark mark.CloseBracket) t = behind_bracket t
behind (token.Mark mark.OpenBracket) t = behind_bound t
behind (token.Mark mark.Range) t = behind_bound t
behind (token.Binary binary.AtMost) t = behind_at_most t
behind _ t = None

-- ---- by what could stand there

abbrev pub if_could : Sign → List Choice → Habit → Option Habit
if_could s found h = if could s found then Some h else None

abbrev pub for_do : List Choice → Option Habit
for_do found =
    if could sign.Then found then Some habit.Then
    else (if could sign.Pardo found && not (could sign.Do found) then Some habit.Pardo else None)

abbrev pub mark_habit : List Choice → Mark → Option Habit
mark_habit found mark.Then = if_could sign.Do found habit.Do
mark_habit found mark.Pardo = if_could sign.Do found habit.Range
mark_habit found mark.Semicolon = if_could sign.Statement found habit.Semicolon
mark_habit found mark.Do = for_do found
mark_habit found mark.Rule = if_could sign.Statement found habit.Declaration
mark_habit found mark.Procs = if_could sign.Statement found habit.Declaration
mark_habit found mark.Shared = if_could sign.Statement found habit.Declaration
mark_habit found mark.Var = if_could sign.Statement found habit.Declaration
mark_habit found mark.Local = if_could sign.Statement found habit.Local
mark_habit found mark.Begin = if_could sign.Statement found habit.Begin
mark_habit found _ = None

-- whether two kinds alone could stand there, as ":=" and "[" behind the name that a statement begins with
abbrev pub are_two : List Choice → Bool
are_two (k ∷ l ∷ []) = true
are_two _ = false

-- Where ":=" is one of more than these, the name before is that behind a "for".
abbrev pub becomes_habit : List Choice → Habit → Option Habit
becomes_habit found h = if are_two found then Some h else Some habit.Range

-- a comparison: behind a name that could be assigned, and behind another comparison
abbrev pub compare_habit : List Choice → Option Habit
compare_habit found = if could sign.Becomes found then becomes_habit found habit.Assign else if_could sign.And found habit.Chain

abbrev pub equal_habit : List Choice → Option Habit
equal_habit found = if could sign.Becomes found then Some habit.Assign else if_could sign.And found habit.Chain

abbrev pub binary_habit : List Choice → Binary → Option Habit
binary_habit found binary.Equal = equal_habit found
binary_habit found binary.Unequal = compare_habit found
binary_habit found binary.Less = compare_habit found
binary_habit found binary.AtMost = compare_habit found
binary_habit found binary.Greater = compare_habit found
binary_habit found binary.AtLeast = compare_habit found
binary_habit found binary.Add = if_could sign.Becomes found habit.Assign
binary_habit found binary.Subtract = if_could sign.Becomes found habit.Assign
binary_habit found binary.Multiply = if_could sign.Becomes found habit.Assign
binary_habit found _ = None

abbrev pub in_habit : List Choice → Option Habit
in_habit found = if could sign.Becomes found && not (are_two found) then Some habit.In else None

abbrev pub token_habit : List Choice → Token → Option Habit
token_habit found (token.Mark m) = mark_habit found m
token_habit found (token.Binary o) = binary_habit found o
token_habit found (token.Name x) = in_habit found
token_habit found (token.Number n) = in_habit found
token_habit found _ = None

-- ---- where one kind alone could stand

abbrev pub for_semicolon : Token → Option Habit
for_semicolon (token.Mark mark.Becomes) = Some habit.Value
for_semicolon (token.Binary binary.Equal) = Some habit.Value
for_semicolon _ = None

abbrev pub for_range : Token → Option Habit
for_range (token.Mark mark.CloseBracket) = Some habit.Bounds
for_range _ = None

abbrev pub for_number : Token → Option Habit
for_number (token.Name x) = Some habit.Constant
for_number _ = None

abbrev pub for_at_most : Token → Option Habit
for_at_most (token.Binary binary.Less) = Some habit.Range
for_at_most _ = None

abbrev pub mark_word : Mark → Option Habit
mark_word mark.OpenParen = None
mark_word mark.CloseParen = None
mark_word mark.OpenBracket = None
mark_word mark.CloseBracket = None
mark_word mark.Becomes = None
mark_word mark.Semicolon = None
mark_word mark.Range = None
mark_word _ = Some habit.Keyword

abbrev pub binary_word : Binary → Option Habit
binary_word binary.And = Some habit.Keyword
binary_word binary.Or = Some habit.Keyword
binary_word binary.Divide = Some habit.Keyword
binary_word binary.Remainder = Some habit.Keyword
binary_word _ = None

abbrev pub word_of : Token → Option Habit
word_of (token.Name x) = None
word_of (token.Number n) = None
word_of (token.Binary o) = binary_word o
word_of token.Not = Some habit.Keyword
word_of (token.Opening o place) = Some habit.Keyword
word_of (token.Mark m) = mark_word m

abbrev pub for_one : Choice → Token → Option Habit
for_one choice.Name t = word_of t
for_one choice.Number t = for_number t
for_one (choice.Fixed (fixed.Mark mark.Semicolon)) t = for_semicolon t
for_one (choice.Fixed (fixed.Mark mark.Range)) t = for_range t
for_one (choice.Fixed (fixed.Binary binary.AtMost)) t = for_at_most t
for_one (choice.Fixed (fixed.Mark mark.Rule)) t = Some habit.Frame
for_one (choice.Fixed (fixed.Mark mark.Procs)) t = Some habit.Frame
for_one _ t = None

abbrev pub for_only : List Choice → Token → Option Habit
for_only (k ∷ []) t = for_one k t
for_only _ t = None

-- ---- at the front of a statement

abbrev pub is_name : Token → Bool
is_name (token.Name x) = true
is_name _ = false

-- a name at the front of a statement, behind which another name stands
abbrev pub front_habit : (before : Token) → List Choice → Token → Option Habit
front_habit (token.Name x) found t = if could sign.Becomes found && are_two found && is_name t then Some habit.Word else None
front_habit _ found t = None

-- a name before "("
abbrev pub function_words : List (List ℕ)
function_words = codes "min" ∷ codes "max" ∷ codes "abs" ∷ []

abbrev pub size_functions : List (List ℕ)
size_functions = codes "log" ∷ codes "root" ∷ codes "pow" ∷ []

abbrev pub called_habit : List ℕ → Option Habit
called_habit word =
    if is_one_of function_words word then Some habit.Function
    else (if is_one_of size_functions word then Some habit.SizeFunction else None)

abbrev pub before_paren : Token → Option Habit
before_paren (token.Name x) = called_habit x.text
before_paren _ = None

abbrev pub call_habit : (before t : Token) → Option Habit
call_habit b (token.Mark mark.OpenParen) = before_paren b
call_habit b _ = None

-- what the token before is
abbrev pub before_habit : (before : Token) → List Choice → Token → Option Habit
before_habit b found t = option_or (name_habit b) (option_or (call_habit b t) (front_habit b found t))

-- a keyword in capitals
abbrev pub capitals_habit : Token → Option Habit
capitals_habit (token.Name x) = if is_capitals x.text then Some habit.Capitals else None
capitals_habit _ = None

-- what a token is by itself, and by what could stand in its place
abbrev pub only_habit : List Choice → Token → Option Habit
only_habit found t = option_or (capitals_habit t) (option_or (for_only found t) (token_habit found t))

-- what a token is that can't stand behind another one
abbrev pub habit_of : (before : Token) → List Choice → Token → Option Habit
habit_of before found t = option_or (behind before t) (only_habit found t)
