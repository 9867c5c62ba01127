-- The facts by which programs that are graded are told.
use Rattle.std.specs.Prelude.{ℕ, List, [], ◌∷◌, ◌++◌, Result, Ok, Err, length, map}
use Rattle.serde_json.specs.Data.{Data}
use Rattle.diagnoses.specs.RefusedLines.{stop_as_it_stands}
use Rattle.diagnoses.specs.Stops.{bytes_in}
use Rattle.diagnoses.specs.declared.halted.Halted.{Halted}
use Rattle.comparing.specs.Found.{found_is}
use Rattle.command_facts.specs.Grades.{correct_of, pair_passes, passing}
use Rattle.command_facts.specs.declared.found.FoundGrade.{FoundGrade}
use Rattle.command_facts.specs.declared.found.FoundPair.{FoundPair}
use Rattle.command_facts.specs.declared.found.GradeRow.{GradeRow}
use Rattle.json_texts.specs.GradeFacts.{graded_facts, passing_facts, ungraded_facts}
use Rattle.json_texts.specs.declared.grade.Marks.{Marks}

-- what the second of two programs gets
abbrev pub marks_of : FoundPair → Marks
marks_of f = record {
  passes = pair_passes f;
  correct = correct_of f;
  rule = f.rule;
  procs = f.second.procs;
  most_procs = f.most_procs;
}

-- what is found of it, or why nothing is, with its place in the file
abbrev pub found_facts : (file : List ℕ) → Result FoundPair Halted → Data
found_facts file (Ok f) = graded_facts file (marks_of f) f.first.layout f.second.layout (found_is f.comparison)
found_facts file (Err h) = ungraded_facts file (bytes_in h.about) (stop_as_it_stands h.about h.stop)

-- under the name of its file
abbrev pub row_facts : GradeRow → Data
row_facts row = found_facts row.name.now row.graded

-- a line for each program, and how many pass
abbrev pub grade_facts : FoundGrade → List Data
grade_facts f = map row_facts f.rows.items ++ passing_facts (passing f.rows.items) (length f.rows.items) ∷ []
