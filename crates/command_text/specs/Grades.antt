-- How programs that are graded are told.
use Rattle.std.specs.Prelude.{ℕ, Bool, true, false, if◌then◌else◌, List, [], ◌∷◌, ◌++◌, Option, Some, None, Result, Ok, Err, codes}
use Rattle.std.specs.Prelude.{decimal, length, map}
use Rattle.pram_model.specs.Layout.{SharedEntry}
use Rattle.pram_model.specs.Rules.{rule_word}
use Rattle.program_texts.specs.Shown.{spaced}
use Rattle.text_places.specs.Escaped.{escaped}
use Rattle.diagnoses.specs.RefusedLines.{stop_line}
use Rattle.diagnoses.specs.declared.halted.Halted.{Halted}
use Rattle.comparing.specs.Found.{Differing, differing_is}
use Rattle.comparing.specs.WhoseText.{whose_text}
use Rattle.comparing.specs.declared.score.Score.{Score}
use Rattle.command_facts.specs.Grades.{correct_of, keeps_procs, pair_passes, passing}
use Rattle.command_facts.specs.declared.found.FoundGrade.{FoundGrade}
use Rattle.command_facts.specs.declared.found.FoundPair.{FoundPair}
use Rattle.command_facts.specs.declared.found.GradeRow.{GradeRow}

-- ---- one program

abbrev pub verdict_word : Bool → List ℕ
verdict_word passes = if passes then codes " pass" else codes " fail"

-- ` pass correct 24 of 24`
abbrev pub verdict_text : FoundPair → List ℕ
verdict_text f =
    verdict_word (pair_passes f) ++ (codes " correct " ++ (decimal (correct_of f) ++ (codes " of " ++ decimal f.comparison.counting)))

-- ` faults 0 goes-on 0 above 0`
abbrev pub counts_text : Score → List ℕ
counts_text s =
    codes " faults " ++ (decimal s.faulted ++ (codes " goes-on " ++ (decimal s.going_on ++ (codes " above " ++ decimal s.above))))

-- ` time 5 work 9`
abbrev pub costs_text : Score → List ℕ
costs_text s = codes " time " ++ (decimal s.most_time ++ (codes " work " ++ decimal s.most_work))

abbrev pub procs_text : ℕ → List ℕ
procs_text procs = codes " procs " ++ decimal procs

-- ` above 8`
abbrev pub most_text : ℕ → List ℕ
most_text most = codes " above " ++ decimal most

abbrev pub excess_of : (keeps : Bool) → Option ℕ → List ℕ
excess_of true most = []
excess_of false None = []
excess_of false (Some most) = most_text most

-- that, where it declares more processors than it may
abbrev pub excess_text : FoundPair → List ℕ
excess_text f = excess_of (keeps_procs f) f.most_procs

abbrev pub rule_text : FoundPair → List ℕ
rule_text f = codes " rule " ++ rule_word f.rule

abbrev pub numbers_text : FoundPair → List ℕ
numbers_text f =
    verdict_text f ++ (counts_text f.comparison.score ++ (costs_text f.comparison.score ++ (procs_text f.second.procs
    ++ (excess_text f ++ rule_text f))))

-- ` input 2 1: output item 1 is 4 in owed.pram, 2 in hard.pram`
abbrev pub differing_text : (first_name second_name : List ℕ) → (first second : List SharedEntry) → Differing → List ℕ
differing_text p q first second d =
    codes " input" ++ (spaced d.input ++ (codes ": " ++ whose_text p q first second d.difference))

-- of those on which they differ the first
abbrev pub first_text : (first_name second_name : List ℕ) → (first second : List SharedEntry) → List Differing → List ℕ
first_text p q first second [] = []
first_text p q first second (d ∷ told) = differing_text p q first second d

-- on one line all that is found of it
abbrev pub graded_text : (first_name second_name : List ℕ) → FoundPair → List ℕ
graded_text p q f =
    numbers_text f ++ (first_text p q f.first.layout f.second.layout (map differing_is f.comparison.told.items) ++ codes "\n")

-- ` fail refused E6 UnknownName at 57`
abbrev pub refused_text : Halted → List ℕ
refused_text h = codes " fail " ++ stop_line h.stop h.about

abbrev pub behind_text : (first_name second_name : List ℕ) → Result FoundPair Halted → List ℕ
behind_text p q (Ok f) = graded_text p q f
behind_text p q (Err h) = refused_text h

-- behind the name of its file
abbrev pub row_text : (first_name : List ℕ) → GradeRow → List ℕ
row_text p row = escaped row.name.now ++ behind_text p row.name.now row.graded

-- ---- all

abbrev pub rows_text : (first_name : List ℕ) → List GradeRow → List ℕ
rows_text p [] = []
rows_text p (row ∷ rows) = row_text p row ++ rows_text p rows

-- `3 of 8 pass`
abbrev pub passing_text : List GradeRow → List ℕ
passing_text rows = decimal (passing rows) ++ (codes " of " ++ (decimal (length rows) ++ codes " pass\n"))

-- a line for each program, and how many pass
abbrev pub grade_text : FoundGrade → List ℕ
grade_text f = rows_text f.name.now f.rows.items ++ passing_text f.rows.items
