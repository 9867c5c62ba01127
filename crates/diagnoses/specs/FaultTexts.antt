-- What is said of a fault: the line where it came, and what happened.
use Rattle.std.specs.Prelude.{ℕ, ◌-◌, ℤ, pos, int_lt, nat_eq, if◌then◌else◌, Bool, true, false, List, [], ◌∷◌, ◌++◌, Option, Some, None}
use Rattle.std.specs.Prelude.{codes, decimal, length, slice_get, take}
use Rattle.std.specs.Fmt.{signed_decimal}
use Rattle.pram_model.specs.Layout.{SharedEntry, subscripts, width}
use Rattle.pram_tokens.specs.declared.token.Binary.{Binary}
use Rattle.pram_trees.specs.declared.tree.Prefix.{Prefix}
use Rattle.pram_printer.specs.Spelling.{binary_text, prefix_text}
use Rattle.pram_values.specs.declared.kind.Kind.{Kind}
use Rattle.pram_values.specs.declared.kind.Kind.TheVariants as kind
use Rattle.pram_values.specs.declared.place.Place.{Place}
use Rattle.pram_values.specs.declared.place.Place.TheVariants as place
use Rattle.write_rules.specs.declared.fault.Fault.{Fault}
use Rattle.write_rules.specs.declared.write.Write.{Write}
use Rattle.journal.specs.Causes.{Before, Between, Beyond, Cause, Meeting, Wide, Writing}
use Rattle.program_texts.specs.Shown.{cell_text, spaced}
use Rattle.text_places.specs.Excerpts.{excerpt, line_excerpt}
use Rattle.diagnoses.specs.declared.source.Source.{Source}
use Rattle.diagnoses.specs.Reasons.{Reason}
use Rattle.diagnoses.specs.Sources.{origin}

abbrev pub kind_sentence : Kind → List ℕ
kind_sentence kind.Overflow = codes "a value is outside the range from -9223372036854775808 to 9223372036854775807"
kind_sentence kind.DivideByZero = codes "the divisor is 0"
kind_sentence kind.OutOfRange = codes "a subscript is outside the bounds of its array"
kind_sentence kind.TooWide = codes "the range has more indices than procs allows processors"
kind_sentence kind.ReadConflict = codes "more than one processor reads this cell at the same moment: erew forbids it, and crew allows it"
kind_sentence kind.WriteConflict = (codes "processors write this cell in one statement: erew and crew forbid it, common where the values "
    ++ codes "differ, and priority and sum allow it")

abbrev pub cell_prefix : List SharedEntry → ℕ → List ℕ
cell_prefix layout c = cell_text layout c ++ codes ": "

-- where it happened: at a processor, at a cell, or outside pardo
abbrev pub place_prefix : List SharedEntry → Place → List ℕ
place_prefix layout place.All = []
place_prefix layout (place.Processor i) = codes "processor " ++ (signed_decimal i ++ codes ": ")
place_prefix layout (place.Cell c) = cell_prefix layout c

-- ---- those that met

-- so many are told at most
abbrev pub most_told : ℕ
most_told = 8

-- how many more there are
abbrev pub others_text : ℕ → List ℕ
others_text n = if nat_eq n 0 then codes " met there\n" else codes " and " ++ (decimal n ++ codes " more met there\n")

abbrev pub those_text : List ℤ → List ℕ
those_text who = spaced (take most_told who) ++ others_text (length who - most_told)

abbrev pub some_text : List ℤ → List ℕ
some_text who = codes "; processors" ++ those_text who

-- those that met, if they are known
abbrev pub met_text : List ℤ → List ℕ
met_text who = if nat_eq (length who) 0 then codes "\n" else some_text who

abbrev pub event_text : Kind → List ℤ → List ℕ
event_text k who = kind_sentence k ++ met_text who

-- ---- causes

-- what is wrong with what an operation comes to
abbrev pub verdict_text : Kind → List ℕ
verdict_text kind.Overflow = codes " is outside the range from -9223372036854775808 to 9223372036854775807\n"
verdict_text kind.DivideByZero = codes ": the divisor is 0\n"
verdict_text kind.OutOfRange = codes " has no value\n"
verdict_text kind.TooWide = codes " has no value\n"
verdict_text kind.ReadConflict = codes " has no value\n"
verdict_text kind.WriteConflict = codes " has no value\n"

abbrev pub opening : Bool → List ℕ
opening true = codes "("
opening false = []

abbrev pub closing : Bool → List ℕ
closing true = codes ")"
closing false = []

-- `7 div 0`, or `3 - (-5)`
abbrev pub between_text : Kind → ℤ → Binary → ℤ → List ℕ
between_text k x o y =
    signed_decimal x
    ++ (codes " "
    ++ (binary_text o
    ++ (codes " " ++ (opening (int_lt y (pos 0)) ++ (signed_decimal y ++ (closing (int_lt y (pos 0)) ++ verdict_text k))))))

-- `-(-9223372036854775808)`
abbrev pub before_text : Kind → Prefix → ℤ → List ℕ
before_text k o x = prefix_text o ++ (codes "(" ++ (signed_decimal x ++ (codes ")" ++ verdict_text k)))

-- `a[9] is outside the bounds of a, which go from 1 to 8`
abbrev pub named_text : List ℕ → (subscript : ℤ) → List ℕ
named_text name z = name ++ (codes "[" ++ (signed_decimal z ++ codes "] is outside the bounds of "))

abbrev pub bounds_text : List ℕ → (low high : ℤ) → List ℕ
bounds_text name low high =
    name ++ (codes ", which go from " ++ (signed_decimal low ++ (codes " to " ++ (signed_decimal high ++ codes "\n"))))

abbrev pub outside_text : List ℕ → (subscript low high : ℤ) → List ℕ
outside_text name z low high = named_text name z ++ bounds_text name low high

-- that of a declaration
abbrev pub subscript_text : ℤ → SharedEntry → List ℕ
subscript_text z e = outside_text e.name z (subscripts e.bounds).0 (subscripts e.bounds).1

abbrev pub beyond_text : ℤ → Option SharedEntry → List ℕ
beyond_text z None = codes "a subscript is outside the bounds of its array\n"
beyond_text z (Some e) = subscript_text z e

-- `0..8 are 9 indices, and procs is 8`
abbrev pub wide_text : ℤ → ℤ → ℕ → List ℕ
wide_text a b procs =
    signed_decimal a
    ++ (codes ".."
    ++ (signed_decimal b
    ++ (codes " are " ++ (decimal (width a b) ++ (codes " indices, and procs is " ++ (decimal procs ++ codes "\n"))))))

-- `, processor 2 writes 7`, behind this mark
abbrev pub write_text : List ℕ → Write → List ℕ
write_text mark w =
    mark ++ (codes " processor " ++ (signed_decimal w.processor ++ (codes " writes " ++ signed_decimal w.value)))

-- writes: this mark stands before the first, and a comma before each other
abbrev pub writes_text : List ℕ → List Write → List ℕ
writes_text mark [] = []
writes_text mark (w ∷ ws) = write_text mark w ++ writes_text (codes ",") ws

-- how many more there are
abbrev pub more_text : ℕ → List ℕ
more_text n = if nat_eq n 0 then codes "\n" else codes " and " ++ (decimal n ++ codes " more\n")

abbrev pub writers_text : List Write → List ℕ
writers_text ws = writes_text (codes ";") (take most_told ws) ++ more_text (length ws - most_told)

abbrev pub writing_text : Kind → List Write → List ℕ
writing_text k ws = kind_sentence k ++ writers_text ws

-- why it happened; the reads that conflict are those of the processors that met
abbrev pub cause_text : List SharedEntry → Kind → List ℤ → Cause → List ℕ
cause_text layout k who (Between x o y) = between_text k x o y
cause_text layout k who (Before o x) = before_text k o x
cause_text layout k who (Beyond a z) = beyond_text z (slice_get layout a)
cause_text layout k who (Wide a b procs) = wide_text a b procs
cause_text layout k who Meeting = event_text k who
cause_text layout k who (Writing ws) = writing_text k ws

-- that, if it is known, or else of which kind it is
abbrev pub known_text : List SharedEntry → Kind → List ℤ → Option Cause → List ℕ
known_text layout k who None = event_text k who
known_text layout k who (Some c) = cause_text layout k who c

-- ---- a fault

-- what happened
abbrev pub fault_sentence : List SharedEntry → Fault → Reason → List ℕ
fault_sentence layout f r = place_prefix layout f.place ++ known_text layout f.kind r.met r.cause

-- the line of the text, and where the element is known whose subscript is wrong, its place in the file, with a caret below it
abbrev pub fault_place : Source → (line : ℕ) → Option ℕ → List ℕ
fault_place s line None = line_excerpt s.name.now s.bytes.items line
fault_place s line (Some at) = excerpt s.name.now s.bytes.items (origin s at)

-- what is said of a fault of a program's run
abbrev pub fault_diagnosis : Source → List SharedEntry → Fault → Reason → List ℕ
fault_diagnosis s layout f r = fault_place s f.line r.at ++ fault_sentence layout f r
