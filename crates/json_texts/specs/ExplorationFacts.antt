-- What JSON says of what is found on the inputs of a scope, or on some that are drawn.
use Rattle.std.specs.Prelude.{ℕ, ℤ, List, [], ◌∷◌, ◌++◌, Option, Some, None, codes, map}
use Rattle.serde_json.specs.Data.{Data}
use Rattle.json_texts.specs.Facts.{Field, large, list, object_of, values}
use Rattle.pram_check.specs.Checked.{Checked}
use Rattle.pram_model.specs.Layout.{SharedEntry}
use Rattle.scopes.specs.Firsts.{Met}
use Rattle.scopes.specs.Found.{Found}
use Rattle.scopes.specs.declared.findings.Span.{Span}
use Rattle.scopes.specs.declared.specification.Specification.{Specification}
use Rattle.json_texts.specs.OutcomeFacts.{fault_fields}

-- a fault, with the input on which it was met
abbrev pub met_facts : List SharedEntry → Met → Data
met_facts layout m = object_of ((codes "input", values m.input) ∷ fault_fields layout m.fault)

abbrev pub span_facts : Span → Data
span_facts s = object_of ((codes "least", large s.least) ∷ (codes "greatest", large s.greatest) ∷ [])

-- from the least to the greatest, where there are any
abbrev pub span_fields : List ℕ → Option Span → List Field
span_fields name None = []
span_fields name (Some s) = (name, span_facts s) ∷ []

-- how many inputs there are, on how many that count the run ends, faults and goes on, and the faults that were met
abbrev pub count_fields : List SharedEntry → Found → List Field
count_fields layout f =
    (codes "inputs", large f.inputs) ∷ (codes "ended", large f.ended) ∷ (codes "faulted", large f.faulted)
    ∷ (codes "go_on", large f.go_on) ∷ (codes "faults", list (map (met_facts layout) f.faults)) ∷ []

-- a number that is told where there is such a program
abbrev pub asked_fields : List ℕ → Option Checked → ℕ → List Field
asked_fields name None number = []
asked_fields name (Some q) number = (name, large number) ∷ []

-- with a precondition how many inputs count, and with a postcondition how many of the runs that end fail
abbrev pub specified_fields : Specification → Found → List Field
specified_fields s f =
    asked_fields (codes "counting") s.precondition f.counting ++ asked_fields (codes "failed") s.postcondition f.failed

-- the first of some inputs, if there is one
abbrev pub input_fields : List ℕ → Option (List ℤ) → List Field
input_fields name None = []
input_fields name (Some input) = (name, values input) ∷ []

-- the first input on which the run goes on, and the first on which it fails
abbrev pub first_fields : Found → List Field
first_fields f = input_fields (codes "goes_on_at") f.goes_on_at ++ input_fields (codes "fails_at") f.fails_at

-- the least and the greatest time and work of the runs that end
abbrev pub cost_fields : Found → List Field
cost_fields f = span_fields (codes "time") f.time ++ span_fields (codes "work") f.work

-- what is told behind the counts of all
abbrev pub behind_fields : Specification → Found → List Field
behind_fields s f = specified_fields s f ++ (first_fields f ++ cost_fields f)

-- how many cells are drawn, where inputs are
abbrev pub cells_fields : Option ℕ → List Field
cells_fields None = []
cells_fields (Some n) = (codes "cells", large n) ∷ []

abbrev pub exploration_facts : List SharedEntry → Specification → (cells : Option ℕ) → Found → Data
exploration_facts layout s cells f = object_of (cells_fields cells ++ (count_fields layout f ++ behind_fields s f))
