-- How it is written what is told of the runs on all inputs of a scope.
use Rattle.std.specs.Prelude.{Bool, ◌||◌, ◌&&◌, ◌==◌, ℕ, ◌-◌, nat_lt, List, [], ◌∷◌, ◌++◌, Option, Some, None, is_some, is_none}
use Rattle.std.specs.Prelude.{length, take, codes, decimal, if◌then◌else◌}
use Rattle.std.specs.Fmt.{signed_decimal}
use Rattle.intervals.specs.declared.interval.Interval.{Interval}
use Rattle.pram_model.specs.Layout.{SharedEntry}
use Rattle.pram_values.specs.declared.kind.Kind.{Kind}
use Rattle.program_texts.specs.Shown.{kind_text}
use Rattle.all_inputs.specs.declared.ending.Ending.{Ending}
use Rattle.all_inputs.specs.declared.line_faults.LineFaults.{LineFaults}
use Rattle.all_inputs.specs.declared.overall.Overall.{Overall}
use Rattle.all_inputs.specs.declared.reason.Reason.{Reason}
use Rattle.all_inputs.specs.declared.scope.Scope.{Scope}
use Rattle.all_inputs.specs.declared.undecided.Undecided.{Undecided}
use Rattle.all_inputs.specs.declared.undecided.Undecided.TheVariants.{OpenBounds, Restless}
use Rattle.all_inputs.specs.Faulting.{all_kinds, reason_for}
use Rattle.all_inputs.specs.Overall.{only_fault}
use Rattle.all_inputs.specs.ReasonText.{ends_text, named_text, reason_text}

-- ---- the scope

-- of several values, or none
abbrev pub many_text : ℕ → List ℕ
many_text count = codes "every input of " ++ (decimal count ++ codes " values")

-- `every input of 8 values`
abbrev pub values_text : ℕ → List ℕ
values_text count = if count == 1 then codes "every input of 1 value" else many_text count

-- ` from -1000 to 1000`
abbrev pub from_text : Interval → List ℕ
from_text i = codes " from " ++ (signed_decimal i.least ++ (codes " to " ++ (signed_decimal i.greatest ++ codes "\n")))

-- `every input of 8 values from -1000 to 1000`
abbrev pub scope_line : Scope → List ℕ
scope_line s = values_text s.values ++ from_text s.of

-- ---- the faults

-- ` line 7: `
abbrev pub line_text : ℕ → List ℕ
line_text line = codes " line " ++ (decimal line ++ codes ": ")

-- `may fault overflow line 7: `
abbrev pub fault_head : List ℕ → Kind → ℕ → List ℕ
fault_head words kind line = words ++ (codes " " ++ (kind_text kind ++ line_text line))

-- `may fault overflow line 7: 0..3 + 1..9`
abbrev pub fault_text : List SharedEntry → List ℕ → Kind → ℕ → Reason → List ℕ
fault_text layout words kind line reason = fault_head words kind line ++ (reason_text layout reason ++ codes "\n")

-- the same, and nothing where there is no reason for such a fault
abbrev pub fault_line : List SharedEntry → List ℕ → Kind → ℕ → Option Reason → List ℕ
fault_line layout words kind line None = []
fault_line layout words kind line (Some reason) = fault_text layout words kind line reason

-- the faults of a line that are of these kinds
abbrev pub kind_lines : List SharedEntry → List ℕ → LineFaults → List Kind → List ℕ
kind_lines layout words e [] = []
kind_lines layout words e (kind ∷ kinds) =
    fault_line layout words kind e.line (reason_for kind e.faults) ++ kind_lines layout words e kinds

-- those of each line, of all kinds
abbrev pub fault_lines : List SharedEntry → List ℕ → List LineFaults → List ℕ
fault_lines layout words [] = []
fault_lines layout words (e ∷ es) = kind_lines layout words e all_kinds ++ fault_lines layout words es

-- of no more lines is it told why
abbrev pub most_lines : ℕ
most_lines = 100

-- `and at 7 more lines`, where there are more
abbrev pub more_line : ℕ → List ℕ
more_line count =
    if nat_lt most_lines count then codes "and at " ++ (decimal (count - most_lines) ++ codes " more lines\n") else []

-- the faults of the first lines, and how many more lines there are
abbrev pub some_text : List SharedEntry → List ℕ → List LineFaults → List ℕ
some_text layout words es = fault_lines layout words (take most_lines es) ++ more_line (length es)

-- no line may fault
abbrev pub is_faultless : List LineFaults → Bool
is_faultless es = length es == 0

-- these, or that there is no fault
abbrev pub faults_text : List SharedEntry → List ℕ → List LineFaults → List ℕ
faults_text layout words es = if is_faultless es then codes "no fault\n" else some_text layout words es

-- a fault that every run has is told as one
abbrev pub fault_words : Overall → List ℕ
fault_words overall = if is_some (only_fault overall) then codes "faults" else codes "may fault"

-- ---- going on

-- nothing is told but that a run may go on
abbrev pub surely_goes_on : Overall → Bool
surely_goes_on overall = overall.told.may_go_on && (is_faultless overall.told.lines.items && is_none overall.end)

-- `goes on`, `may go on`, or nothing
abbrev pub going_on_line : Overall → List ℕ
going_on_line overall =
    if surely_goes_on overall then codes "goes on\n" else if overall.told.may_go_on then codes "may go on\n" else []

-- ---- the end

-- where every run faults alike or goes on, it is told by that that none ends
abbrev pub no_end_line : Overall → List ℕ
no_end_line overall = if is_some (only_fault overall) || surely_goes_on overall then [] else codes "no run ends\n"

-- `time 9`, or `time 9 to 17`
abbrev pub time_line : (least most : ℕ) → List ℕ
time_line least most =
    if least == most then codes "time " ++ (decimal least ++ codes "\n")
    else codes "time " ++ (decimal least ++ (codes " to " ++ (decimal most ++ codes "\n")))

-- `a[1..8] in -8000..8000`
abbrev pub declared_line : Option SharedEntry → Interval → List ℕ
declared_line entry i = named_text entry ++ (codes " in " ++ (ends_text i ++ codes "\n"))

-- a line for each declaration in order
abbrev pub declared_lines : List SharedEntry → List Interval → List ℕ
declared_lines [] is = []
declared_lines (e ∷ es) [] = []
declared_lines (e ∷ es) (i ∷ is) = declared_line (Some e) i ++ declared_lines es is

-- the time, and the intervals of all values
abbrev pub ending_text : List SharedEntry → Ending → List ℕ
ending_text layout e = time_line e.least e.most ++ declared_lines layout e.declared.items

-- what is known of the runs that end, or that none does
abbrev pub end_text : List SharedEntry → Overall → Option Ending → List ℕ
end_text layout overall None = no_end_line overall
end_text layout overall (Some e) = ending_text layout e

-- ---- all of it

-- the scope, the faults, whether a run goes on, and what is known of those that end
abbrev pub overall_text : List SharedEntry → Scope → Overall → List ℕ
overall_text layout scope overall = scope_line scope
    ++ (faults_text layout (fault_words overall) overall.told.lines.items ++ (going_on_line overall ++ end_text layout overall overall.end))

-- `undecided line 4: `
abbrev pub undecided_head : ℕ → List ℕ
undecided_head line = codes "undecided line " ++ (decimal line ++ codes ": ")

-- `undecided line 4: the loop comes to no rest`
abbrev pub undecided_line : Undecided → List ℕ
undecided_line (OpenBounds line) = undecided_head line ++ codes "the bounds aren't known as numbers\n"
undecided_line (Restless line) = undecided_head line ++ codes "the loop comes to no rest\n"

-- the scope, and where too little is known
abbrev pub undecided_text : Scope → Undecided → List ℕ
undecided_text scope undecided = scope_line scope ++ undecided_line undecided
