-- What JSON says of what holds of a program's runs on all inputs of a scope.
use Rattle.std.specs.Prelude.{ℕ, List, [], ◌∷◌, ◌++◌, Option, Some, None, codes, flat_map, is_some, map, slice_get, true, zip}
use Rattle.serde_json.specs.Data.{Data}
use Rattle.json_texts.specs.Facts.{Field, count, flag, letters, list, object_of, value, word}
use Rattle.pram_model.specs.Layout.{SharedEntry}
use Rattle.pram_printer.specs.Spelling.{binary_text, prefix_text}
use Rattle.pram_values.specs.declared.kind.Kind.{Kind}
use Rattle.program_texts.specs.Shown.{kind_text}
use Rattle.intervals.specs.declared.interval.Interval.{Interval}
use Rattle.all_inputs.specs.declared.ending.Ending.{Ending}
use Rattle.all_inputs.specs.declared.overall.Overall.{Overall}
use Rattle.all_inputs.specs.declared.reason.Reason.{Reason}
use Rattle.all_inputs.specs.declared.reason.Reason.TheVariants as reason
use Rattle.all_inputs.specs.declared.scope.Scope.{Scope}
use Rattle.all_inputs.specs.declared.line_faults.LineFaults.{LineFaults}
use Rattle.all_inputs.specs.declared.undecided.Undecided.{Undecided}
use Rattle.all_inputs.specs.declared.undecided.Undecided.TheVariants as undecided
use Rattle.all_inputs.specs.Faulting.{all_kinds, reason_for}
use Rattle.all_inputs.specs.Overall.{only_fault}
use Rattle.json_texts.specs.OutcomeFacts.{bounds_fields}

-- the least and the greatest number of an interval
abbrev pub interval_fields : Interval → List Field
interval_fields i = (codes "least", value i.least) ∷ (codes "greatest", value i.greatest) ∷ []

abbrev pub interval_facts : Interval → Data
interval_facts i = object_of (interval_fields i)

-- how many values an input has, and the interval of each
abbrev pub scope_facts : Scope → Data
scope_facts s = object_of ((codes "values", count s.values) ∷ interval_fields s.of)

-- the name of the declaration whose subscript it is, if there is one of that number
abbrev pub name_fields : Option SharedEntry → List Field
name_fields None = []
name_fields (Some e) = (codes "subscript_of", letters e.name) ∷ []

-- the operator and the intervals of its operands, the subscript, or the bounds of the pardo; of cells that are shared nothing else is known
abbrev pub reason_fields : List SharedEntry → Reason → List Field
reason_fields layout (reason.Operands o left right) =
    (codes "operator", letters (binary_text o)) ∷ (codes "left", interval_facts left) ∷ (codes "right", interval_facts right) ∷ []
reason_fields layout (reason.Operand o operand) =
    (codes "operator", letters (prefix_text o)) ∷ (codes "operand", interval_facts operand) ∷ []
reason_fields layout (reason.Subscript a subscript) = (codes "subscript", interval_facts subscript) ∷ name_fields (slice_get layout a)
reason_fields layout (reason.Width first last) = (codes "first", value first) ∷ (codes "last", value last) ∷ []
reason_fields layout reason.Shared = (codes "shared", flag true) ∷ []
reason_fields layout reason.Single = (codes "single", flag true) ∷ []

abbrev pub reason_facts : List SharedEntry → Reason → Data
reason_facts layout r = object_of (reason_fields layout r)

-- a fault that may come: its kind, its line, and why it may
abbrev pub fault_facts : List SharedEntry → (line : ℕ) → Kind → Reason → Data
fault_facts layout line kind r =
    object_of ((codes "kind", word (kind_text kind)) ∷ (codes "line", count line) ∷ (codes "reason", reason_facts layout r) ∷ [])

-- that fault, if there is a reason for it
abbrev pub facts_if_any : List SharedEntry → (line : ℕ) → Kind → Option Reason → List Data
facts_if_any layout line kind None = []
facts_if_any layout line kind (Some r) = fault_facts layout line kind r ∷ []

-- each fault that may come at a line
abbrev pub line_facts : List SharedEntry → LineFaults → List Data
line_facts layout e = flat_map (λ kind. facts_if_any layout e.line kind (reason_for kind e.faults)) all_kinds

-- each fault that may come, line by line
abbrev pub faults_facts : List SharedEntry → List LineFaults → List Data
faults_facts layout lines = flat_map (line_facts layout) lines

-- how many statements a run that ends has, at least and at most
abbrev pub time_facts : (least most : ℕ) → Data
time_facts least most = object_of ((codes "least", count least) ∷ (codes "greatest", count most) ∷ [])

-- a declaration, with the interval of the values of its cells
abbrev pub declared_facts : SharedEntry → Interval → Data
declared_facts e i = object_of ((codes "name", letters e.name) ∷ (interval_fields i ++ bounds_fields e.bounds))

-- each declaration, in order
abbrev pub memory_facts : List SharedEntry → List Interval → List Data
memory_facts layout is = map (λ d. declared_facts d.0 d.1) (zip layout is)

-- time and memory of the runs that end
abbrev pub ending_fields : List SharedEntry → Ending → List Field
ending_fields layout e = (codes "time", time_facts e.least e.most) ∷ (codes "memory", list (memory_facts layout e.declared.items)) ∷ []

-- those, if any may end
abbrev pub end_fields : List SharedEntry → Option Ending → List Field
end_fields layout None = []
end_fields layout (Some e) = ending_fields layout e

-- the faults that may come, whether each run has the only one of them, and whether a run may go on behind the bound
abbrev pub told_fields : List SharedEntry → Overall → List Field
told_fields layout o =
    (codes "faults", list (faults_facts layout o.told.lines.items)) ∷ (codes "each_faults", flag (is_some (only_fault o)))
    ∷ (codes "may_go_on", flag o.told.may_go_on) ∷ []

-- the scope, what is told of all runs, and what is known of those that end
abbrev pub overall_fields : List SharedEntry → Scope → Overall → List Field
overall_fields layout scope o = (codes "scope", scope_facts scope) ∷ (told_fields layout o ++ end_fields layout o.end)

abbrev pub overall_facts : List SharedEntry → Scope → Overall → Data
overall_facts layout scope o = object_of (overall_fields layout scope o)

-- where too little is known, and why
abbrev pub why_facts : List ℕ → (line : ℕ) → Data
why_facts why line = object_of ((codes "why", word why) ∷ (codes "line", count line) ∷ [])

abbrev pub reached_facts : Undecided → Data
reached_facts (undecided.OpenBounds line) = why_facts (codes "open-bounds") line
reached_facts (undecided.Restless line) = why_facts (codes "restless") line

abbrev pub undecided_facts : Scope → Undecided → Data
undecided_facts scope u = object_of ((codes "scope", scope_facts scope) ∷ (codes "undecided", reached_facts u) ∷ [])
