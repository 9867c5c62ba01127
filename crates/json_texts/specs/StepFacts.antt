-- What JSON says of a run that is told statement by statement.
use Rattle.std.specs.Prelude.{ℕ, ℤ, Option, ◌+◌, nat_le, ◌&&◌, if◌then◌else◌, List, [], ◌∷◌, ◌++◌, codes, length, map}
use Rattle.std.specs.List.{flat_map}
use Rattle.serde_json.specs.Data.{Data}
use Rattle.json_texts.specs.Facts.{Field, count, letters, list, object_of, value, values}
use Rattle.pram_model.specs.Layout.{SharedEntry}
use Rattle.pram_trees.specs.Program.{ProgramTree}
use Rattle.program_texts.specs.Shown.{cell_text}
use Rattle.help.specs.Locals.{local_name, variable_name}
use Rattle.journal.specs.declared.change.Change.{Change}
use Rattle.journal.specs.declared.local_change.LocalChange.{LocalChange}
use Rattle.journal.specs.Entries.{Act, Entry, Faulting, OwnLocals, Ran}
use Rattle.journal.specs.Causes.{Cause}
use Rattle.text_places.specs.Places.{place_of}
use Rattle.write_rules.specs.declared.fault.Fault.{Fault}
use Rattle.write_rules.specs.Verdict.{Verdict}
use Rattle.json_texts.specs.ActFacts.{act_facts}
use Rattle.json_texts.specs.CauseFacts.{known_fields}
use Rattle.json_texts.specs.OutcomeFacts.{fault_fields, outcome_facts}

-- a cell's value before the statement and behind it
abbrev pub change_facts : List SharedEntry → Change → Data
change_facts layout d =
    object_of ((codes "cell", letters (cell_text layout d.cell)) ∷ (codes "before", value d.before) ∷ (codes "after", value d.after) ∷ [])

-- the same of a uniform variable, by its number in the order of declarations and by its name
abbrev pub variable_facts : ProgramTree → Change → Data
variable_facts tree d = object_of
    ((codes "variable", count d.cell) ∷ (codes "name", letters (variable_name tree d.cell))
    ∷ (codes "before", value d.before) ∷ (codes "after", value d.after) ∷ [])

-- the same of a processor's local, by the index and the local's name, in a statement that stands at that offset
abbrev pub local_facts : ProgramTree → (at : ℕ) → LocalChange → Data
local_facts tree at d = object_of
    ((codes "processor", value d.processor) ∷ (codes "local", letters (local_name tree at d.change.cell))
    ∷ (codes "before", value d.change.before) ∷ (codes "after", value d.change.after) ∷ [])

-- what a processor's local holds, by the index and the local's name
abbrev pub held_facts : (processor : ℤ) → (name : List ℕ) → (held : ℤ) → Data
held_facts i name v = object_of ((codes "processor", value i) ∷ (codes "local", letters name) ∷ (codes "value", value v) ∷ [])

-- what those of a processor hold, numbered from this on, in a statement that stands at that offset
abbrev pub held_from : ProgramTree → (at : ℕ) → (processor : ℤ) → (number : ℕ) → List ℤ → List Data
held_from tree at i number [] = []
held_from tree at i number (v ∷ vs) = held_facts i (local_name tree at number) v ∷ held_from tree at i (number + 1) vs

abbrev pub own_facts : ProgramTree → (at : ℕ) → OwnLocals → List Data
own_facts tree at l = held_from tree at l.processor 0 l.values

-- what is told of a statement that faulted: who met at its cell, what each did up to there, its fault, and why
abbrev pub faulting_fields : List SharedEntry → Fault → Option Cause → List Act → (met : List ℤ) → List Field
faulting_fields layout fault cause acts met =
    (codes "met", values met) ∷ (codes "acts", list (map (act_facts layout) acts))
    ∷ (fault_fields layout fault ++ known_fields layout cause)

-- that, with the locals of the processors that it is of
abbrev pub fault_told : List SharedEntry → ProgramTree → (at : ℕ) → Fault → Option Cause → List Act → (met : List ℤ) → List OwnLocals →
    List Field
fault_told layout tree at fault cause acts met locals =
    (codes "locals", list (flat_map (own_facts tree at) locals)) ∷ faulting_fields layout fault cause acts met

-- the column of a statement that stands at that offset of the program's text
abbrev pub column_field : (source : List ℕ) → (at : ℕ) → Field
column_field source at = (codes "column", count (place_of source at).column)

-- what is told of a statement: its line and its column, how many processors executed it and what each did, the cells, the uniform
-- variables and the locals that changed, and what it printed; or its column and its fault
abbrev pub told_fields : List SharedEntry → ProgramTree → (source : List ℕ) → Entry → List Field
told_fields layout tree source (Ran here acts cells variables locals items) =
    (codes "line", count here.line) ∷ column_field source here.offset ∷ (codes "processors", count (length acts))
    ∷ (codes "acts", list (map (act_facts layout) acts))
    ∷ (codes "changes", list (map (change_facts layout) cells)) ∷ (codes "variables", list (map (variable_facts tree) variables))
    ∷ (codes "locals", list (map (local_facts tree here.offset) locals)) ∷ (codes "printed", values items) ∷ []
told_fields layout tree source (Faulting here fault cause acts met locals) =
    column_field source here.offset ∷ fault_told layout tree here.offset fault cause acts met locals

abbrev pub step_facts : List SharedEntry → ProgramTree → (source : List ℕ) → ℕ → Entry → Data
step_facts layout tree source number e = object_of ((codes "step", count number) ∷ told_fields layout tree source e)

-- that, where its number is asked for
abbrev pub step_within : List SharedEntry → ProgramTree → (source : List ℕ) → (first last number : ℕ) → Entry → List Data
step_within layout tree source first last number e =
    if nat_le first number && nat_le number last then step_facts layout tree source number e ∷ [] else []

-- those of entries that are numbered from this on
abbrev pub steps_from : List SharedEntry → ProgramTree → (source : List ℕ) → (first last number : ℕ) → List Entry → List Data
steps_from layout tree source first last number [] = []
steps_from layout tree source first last number (e ∷ es) =
    step_within layout tree source first last number e ++ steps_from layout tree source first last (number + 1) es

-- those whose numbers, counted from 1, go from `first` to `last`, and behind them the outcome
abbrev pub steps_facts : List SharedEntry → ProgramTree → (source : List ℕ) → Verdict → List Entry → (first last : ℕ) → List Data
steps_facts layout tree source v es first last = steps_from layout tree source first last 1 es ++ outcome_facts layout v ∷ []
