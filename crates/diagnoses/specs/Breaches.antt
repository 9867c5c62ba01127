-- What is said of the first thing that is wrong with a program: E6 to E10.
use Rattle.std.specs.Prelude.{ℕ, ◌==◌, ◌||◌, Bool, true, false, not, if◌then◌else◌, List, [], ◌∷◌, ◌++◌, Option, Some, None, codes, decimal}
use Rattle.std.specs.Prelude.{drop, length}
use Rattle.pram_model.specs.Names.{is_one_of, same_text}
use Rattle.pram_names.specs.declared.fault.Cause.{Cause}
use Rattle.pram_names.specs.declared.fault.Cause.TheVariants as cause
use Rattle.pram_names.specs.declared.fault.Limit.{Limit}
use Rattle.pram_names.specs.declared.fault.Limit.TheVariants as limit
use Rattle.pram_names.specs.declared.fault.Spot.{Spot}
use Rattle.pram_names.specs.declared.fault.Spot.TheVariants as spot
use Rattle.pram_names.specs.declared.fault.Breach.{Breach}
use Rattle.help.specs.declared.known.Sort.{Sort}
use Rattle.help.specs.declared.known.Sort.TheVariants as sort
use Rattle.help.specs.declared.message.Point.TheVariants.{Byte}
use Rattle.help.specs.Messages.{Message, said, with_meant}
use Rattle.diagnoses.specs.declared.undeclared.Around.{Around}
use Rattle.diagnoses.specs.declared.source.Kind.{Kind}
use Rattle.diagnoses.specs.declared.source.Kind.TheVariants as kind
use Rattle.diagnoses.specs.declared.source.Source.{Source}
use Rattle.diagnoses.specs.Places.{quoted, token_at}
use Rattle.diagnoses.specs.Remarks.{Remark, Nothing, Nearest, Declared, Misplaced, Elsewhere, Undeclared, Expected}
use Rattle.diagnoses.specs.declared.fitting.Role.{Role}
use Rattle.diagnoses.specs.declared.fitting.Role.TheVariants as role
use Rattle.diagnoses.specs.Sources.{spot_as_it_stands, text_in}

abbrev pub sort_text : Sort → List ℕ
sort_text sort.Cell = codes "a shared cell"
sort_text sort.Array = codes "a shared array"
sort_text sort.Variable = codes "a variable"
sort_text sort.Index = codes "the index of a pardo"
sort_text sort.Local = codes "a local of a pardo"

-- why a name of that sort is not set where it stands
abbrev pub target_reason : Sort → List ℕ
target_reason sort.Variable = codes "inside pardo a local or a shared cell is set, and no variable"
target_reason sort.Array = codes "it wants a subscript"
target_reason sort.Cell = codes "it is not set here"
target_reason sort.Index = codes "it is not set here"
target_reason sort.Local = codes "it is not set here"

-- why it can't have that role
abbrev pub role_reason : Sort → Role → List ℕ
role_reason s role.Element = codes "it has no subscript"
role_reason s role.Counter = codes "a for runs over a variable"
role_reason s role.Target = target_reason s
role_reason s role.Value = codes "it wants a subscript"

-- why a variable of a loop can't be set
abbrev pub loop_reason : Sort → List ℕ
loop_reason sort.Variable = codes "it is the variable of a for around this, and is not set in its body"
loop_reason sort.Cell = codes "it is not set here"
loop_reason sort.Array = codes "it is not set here"
loop_reason sort.Index = codes "an index is never set"
loop_reason sort.Local = codes "it is not set here"

abbrev pub reason : Cause → Sort → List ℕ
reason cause.UnknownName s = codes "it is not in scope here"
reason cause.DoubleName s = codes "it can't be declared again here, and a pardo declares its index"
reason cause.WrongKind s = codes "it is of another kind than what may stand here"
reason cause.AssignedLoopVariable s = loop_reason s
reason (cause.Limit l) s = codes "it passes a limit"

-- whether a `for` counts: ":" stands in the text before any "<"
abbrev pub counts : List ℕ → Bool
counts [] = false
counts (b ∷ bs) = if b == 58 || b == 60 then b == 58 else counts bs

-- a `for` inside pardo: one that counts, and another pardo
abbrev pub inner_for : (counts : Bool) → List ℕ
inner_for true = codes " has no place inside pardo: loop by a local and a while, as in k := 1; while k <= 8 do k := k + 1; end"
inner_for false = (codes " has no place inside pardo: run over pairs by one range, as for 0 <= p <= n * m - 1 pardo, with the locals "
    ++ codes "i := p div m; j := p mod m;")

abbrev pub is_print : List ℕ → Bool
is_print word = is_one_of (codes "print" ∷ []) word

abbrev pub is_for : List ℕ → Bool
is_for word = is_one_of (codes "for" ∷ []) word

-- what is said behind a word of which no more is known
abbrev pub wrong_kind : List ℕ → (counts : Bool) → List ℕ
wrong_kind word c =
    if is_print word then codes " has no place inside pardo: set a shared cell there, and print it behind the pardo"
    else (if is_for word then inner_for c else codes " is of another kind than what may stand here")

abbrev pub bare : List ℕ → Around → Cause → List ℕ
bare word k cause.UnknownName = codes " is not declared here"
bare word k cause.DoubleName = codes " is declared already"
bare word k cause.WrongKind = wrong_kind word k.counts
bare word k cause.AssignedLoopVariable = codes " is the variable of a loop, and is not set in its body"
bare word k (cause.Limit l) = codes " passes a limit"

-- ---- a name that is not declared

abbrev pub truth_words : List (List ℕ)
truth_words = codes "true" ∷ codes "false" ∷ codes "True" ∷ codes "False" ∷ codes "TRUE" ∷ codes "FALSE" ∷ []

abbrev pub array_line : List ℕ → List ℕ
array_line word = codes " is not declared: write \"shared " ++ (word ++ codes "[1..8];\" before \"begin\"")

-- in a text with sizes, and in one without
abbrev pub variable_line : List ℕ → (sized : Bool) → List ℕ
variable_line word true =
    codes " is not declared: write \"var " ++ (word ++ codes ";\" before \"begin\", or braces around it if it is a size")
variable_line word false = codes " is not declared: write \"var " ++ (word ++ codes ";\" before \"begin\"")

abbrev pub local_line : List ℕ → (sized : Bool) → List ℕ
local_line word true =
    codes " is not declared: write \"local " ++ (word ++ codes ";\" first in the body of the pardo, or braces around it if it is a size")
local_line word false = codes " is not declared: write \"local " ++ (word ++ codes ";\" first in the body of the pardo")

abbrev pub plain_line : List ℕ → (inside sized : Bool) → List ℕ
plain_line word true sized = local_line word sized
plain_line word false sized = variable_line word sized

-- the line that declares it, by its role
abbrev pub missing_line : List ℕ → Role → (inside sized : Bool) → List ℕ
missing_line word role.Element inside sized = array_line word
missing_line word role.Target inside sized = plain_line word inside sized
missing_line word role.Counter inside sized = plain_line word inside sized
missing_line word role.Value inside sized = plain_line word inside sized

abbrev pub undeclared : List ℕ → Role → (inside sized : Bool) → List ℕ
undeclared word role inside sized =
    if is_one_of truth_words word then codes " is not declared: there are no truth values, 1 is true and 0 is false"
    else missing_line word role inside sized

-- as what and where it is declared, and what is wrong with that
abbrev pub declared_text : Cause → Sort → ℕ → List ℕ
declared_text c s line =
    codes " is " ++ (sort_text s ++ (codes ", declared at line " ++ (decimal line ++ (codes ": " ++ reason c s))))

-- as what and where it is declared, and why it can't have that role
abbrev pub misplaced_text : Sort → ℕ → Role → List ℕ
misplaced_text s line r =
    codes " is " ++ (sort_text s ++ (codes ", declared at line " ++ (decimal line ++ (codes ": " ++ role_reason s r))))

-- as what and where it is declared in a pardo, and that it holds there alone
abbrev pub elsewhere_text : Sort → ℕ → List ℕ
elsewhere_text s line =
    codes " is " ++ (sort_text s ++ (codes ", declared at line " ++ (decimal line ++ codes ": it holds in the body of that pardo alone")))

-- what is said behind the word
abbrev pub remarked : List ℕ → Around → Cause → Remark → List ℕ
remarked word k c Nothing = bare word k c
remarked word k c (Nearest name) = codes " is not declared here; did you mean \"" ++ (name ++ codes "\"?")
remarked word k c (Declared s line) = declared_text c s line
remarked word k c (Misplaced s line r) = misplaced_text s line r
remarked word k c (Elsewhere s line) = elsewhere_text s line
remarked word k c (Undeclared r inside) = undeclared word r inside k.sized
remarked word k c (Expected found hint) = bare word k c

abbrev pub limit_sentence : Limit → List ℕ
limit_sentence limit.Cells = codes "with this the program has more than 1048576 shared cells, the most that there may be"
limit_sentence limit.Procs = codes "procs is a number from 1 to 16384"
limit_sentence limit.Bounds = codes "the first bound of an array is at most its last"
limit_sentence limit.Reads = codes "this is the ninth shared read of the statement, which has at most 8: split it in two"
limit_sentence limit.Tokens = codes "a program has at most 16384 tokens"

abbrev pub named_sentence : List ℕ → Around → Cause → Remark → List ℕ
named_sentence word k c r = quoted word ++ remarked word k c r

abbrev pub breach_sentence : List ℕ → Around → Cause → Remark → List ℕ
breach_sentence word k (cause.Limit l) r = limit_sentence l
breach_sentence word k c r = named_sentence word k c r

-- of a name in a memory
abbrev pub unnamed : List ℕ → List ℕ
unnamed word = quoted word ++ codes " names no shared cells of the program"

-- of a word in a text of that kind
abbrev pub said_of : Kind → List ℕ → Around → Cause → Remark → List ℕ
said_of kind.Program word k c r = breach_sentence word k c r
said_of kind.Input word k c r = breach_sentence word k c r
said_of kind.Memory word k c r = unnamed word
said_of kind.Listing word k c r = breach_sentence word k c r

-- where it stands
abbrev pub offset_of : List ℕ → Spot → ℕ
offset_of text (spot.Offset at) = at
offset_of text spot.TextEnd = length text

-- the word or symbol there
abbrev pub word_at : List ℕ → Spot → List ℕ
word_at text s = token_at text (offset_of text s)

-- whether a `for` there counts
abbrev pub counts_at : List ℕ → Spot → Bool
counts_at text s = counts (drop (offset_of text s) text)

-- that, and whether the text has sizes: then it is another one than that of the file
abbrev pub around_at : Source → Spot → Around
around_at s at = record { counts = counts_at (text_in s) at; sized = not (same_text (text_in s) s.bytes.items) }

-- the name that was meant, if that is known
abbrev pub meant_name : Remark → Option (List ℕ)
meant_name (Nearest name) = Some name
meant_name _ = None

-- of a name in a text of that kind
abbrev pub meant_in : Kind → Remark → Option (List ℕ)
meant_in kind.Program r = meant_name r
meant_in kind.Input r = meant_name r
meant_in kind.Memory r = None
meant_in kind.Listing r = meant_name r

-- a sentence about that place, which may be the end of the text
abbrev pub at_spot : Source → Spot → List ℕ → Message
at_spot s at sentence = said (Some (Byte (offset_of s.bytes.items (spot_as_it_stands s at)))) sentence

-- what is said of the first thing that is wrong with the program of a text: of the word there by what there is to say of its name
abbrev pub breach_message : Source → Breach → Remark → Message
breach_message s b r =
    with_meant (at_spot s b.spot (said_of s.kind (word_at (text_in s) b.spot) (around_at s b.spot) b.cause r)) (meant_in s.kind r)
