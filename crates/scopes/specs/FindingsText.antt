-- How findings are written.
use Rattle.std.specs.Prelude.{ℕ, ℤ, List, [], ◌∷◌, ◌++◌, Option, Some, None, codes, decimal}
use Rattle.pram_check.specs.Checked.{Checked}
use Rattle.pram_model.specs.Layout.{SharedEntry}
use Rattle.program_texts.specs.Shown.{fault_text, spaced}
use Rattle.scopes.specs.declared.findings.Span.{Span}
use Rattle.scopes.specs.declared.specification.Specification.{Specification}
use Rattle.scopes.specs.Firsts.{Met}
use Rattle.scopes.specs.Found.{Found}

-- a number in decimal behind some words, and the end of its line
abbrev pub fact : List ℕ → ℕ → List ℕ
fact words number = words ++ (decimal number ++ codes "\n")

-- a fact of a number that is told only where there is a program of that kind
abbrev pub fact_with : Option Checked → List ℕ → ℕ → List ℕ
fact_with None words number = []
fact_with (Some q) words number = fact words number

-- on how many inputs the run ends, faults and goes on
abbrev pub outcomes_text : Found → List ℕ
outcomes_text f = fact (codes "ended ") f.ended ++ (fact (codes "faulted ") f.faulted ++ fact (codes "go on ") f.go_on)

abbrev pub counts_text : Specification → Found → List ℕ
counts_text s f = fact (codes "inputs ") f.inputs
    ++ (fact_with s.precondition (codes "counting ") f.counting
    ++ (outcomes_text f ++ fact_with s.postcondition (codes "failed ") f.failed))

-- `fault read-conflict a[1] line 4 at input 3 1 4 1`
abbrev pub met_line : List SharedEntry → Met → List ℕ
met_line layout m = fault_text layout m.fault ++ (codes " at input" ++ (spaced m.input ++ codes "\n"))

abbrev pub met_lines : List SharedEntry → List Met → List ℕ
met_lines layout [] = []
met_lines layout (m ∷ ms) = met_line layout m ++ met_lines layout ms

-- some words, and the first of these inputs, if there is one: `goes on at input 3 1 4`
abbrev pub input_line : List ℕ → Option (List ℤ) → List ℕ
input_line words None = []
input_line words (Some input) = words ++ (spaced input ++ codes "\n")

-- `time 9 to 17`
abbrev pub some_span : List ℕ → Span → List ℕ
some_span words s = words ++ (decimal s.least ++ (codes " to " ++ (decimal s.greatest ++ codes "\n")))

abbrev pub span_line : List ℕ → Option Span → List ℕ
span_line words None = []
span_line words (Some s) = some_span words s

abbrev pub behind_text : Found → List ℕ
behind_text f = input_line (codes "goes on at input") f.goes_on_at
    ++ (input_line (codes "fails at input") f.fails_at ++ (span_line (codes "time ") f.time ++ span_line (codes "work ") f.work))

-- each fact on a line of its own
abbrev pub findings_text : List SharedEntry → Specification → Found → List ℕ
findings_text layout s f = counts_text s f ++ (met_lines layout f.faults ++ behind_text f)
