-- How it is written why a fault may come.
use Rattle.std.specs.Prelude.{Bool, ℕ, ℤ, List, [], ◌++◌, Option, Some, None, codes, slice_get, if◌then◌else◌}
use Rattle.std.specs.Fmt.{signed_decimal}
use Rattle.std.specs.Ordering.{int_eq}
use Rattle.intervals.specs.declared.interval.Interval.{Interval}
use Rattle.pram_model.specs.Layout.{SharedEntry}
use Rattle.pram_printer.specs.Spelling.{binary_text, prefix_text}
use Rattle.program_texts.specs.Shown.{bounds_text}
use Rattle.all_inputs.specs.declared.reason.Reason.{Reason}
use Rattle.all_inputs.specs.declared.reason.Reason.TheVariants.{Operands, Operand, Subscript, Width, Shared, Single}

-- `-3..7`
abbrev pub range_text : ℤ → ℤ → List ℕ
range_text low high = signed_decimal low ++ (codes ".." ++ signed_decimal high)

-- the same, from the least to the greatest
abbrev pub ends_text : Interval → List ℕ
ends_text i = range_text i.least i.greatest

-- a point
abbrev pub is_one : Interval → Bool
is_one i = int_eq i.least i.greatest

-- `-3..7`, or the one number alone
abbrev pub interval_text : Interval → List ℕ
interval_text i = if is_one i then signed_decimal i.least else ends_text i

-- the words before an interval, or before the one number
abbrev pub is_in_words : Interval → List ℕ
is_in_words i = if is_one i then codes " is " else codes " is in "

-- ` is in -3..7`, or ` is 4`
abbrev pub is_in_text : Interval → List ℕ
is_in_text i = is_in_words i ++ interval_text i

-- `s`, or `a[0..3]`
abbrev pub declared_text : SharedEntry → List ℕ
declared_text e = e.name ++ bounds_text e.bounds

-- the same, and nothing where there is no such declaration
abbrev pub named_text : Option SharedEntry → List ℕ
named_text None = []
named_text (Some e) = declared_text e

-- an operator between its operands
abbrev pub between_text : List ℕ → List ℕ
between_text operator = codes " " ++ (operator ++ codes " ")

-- an operator before its operand
abbrev pub before_text : List ℕ → List ℕ
before_text operator = operator ++ codes "("

-- `0..3 + 1..9`
abbrev pub operands_text : List ℕ → Interval → Interval → List ℕ
operands_text operator left right = interval_text left ++ (between_text operator ++ interval_text right)

-- `-(0..3)`
abbrev pub operand_text : List ℕ → Interval → List ℕ
operand_text operator operand = before_text operator ++ (interval_text operand ++ codes ")")

-- `the subscript of a[0..3] is in 0..4`
abbrev pub subscript_text : Option SharedEntry → Interval → List ℕ
subscript_text entry subscript = codes "the subscript of " ++ (named_text entry ++ is_in_text subscript)

-- what is known of the numbers that bring the fault about
abbrev pub reason_text : List SharedEntry → Reason → List ℕ
reason_text layout (Operands operator left right) = operands_text (binary_text operator) left right
reason_text layout (Operand operator operand) = operand_text (prefix_text operator) operand
reason_text layout (Subscript entry subscript) = subscript_text (slice_get layout entry) subscript
reason_text layout (Width first last) = codes "the indices are " ++ range_text first last
reason_text layout Shared = codes "processors may share a cell"
reason_text layout Single = codes "the one input comes to it"
