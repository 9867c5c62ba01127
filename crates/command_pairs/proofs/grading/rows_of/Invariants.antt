use Rattle.std.proofs.Common.{take}
use Rattle.std.specs.List.{AllZip}
use Rattle.system_files.specs.Files.{IsSame}
use Rattle.command_pairs.specs.Grades.{IsRow}
use Rattle.command_pairs.proofs.grading.rows_of.Given as goal

-- the rows so far are those of the words so far, and the files hold what they did
abbrev pub invariant-loop-words : goal.invariant-loop-words
invariant-loop-words g l =
    AllZip (IsRow (g.S.Sources.holds l.fn.sources)) (take l.words-index l.pairs) l.rows.items
    × IsSame (g.S.Sources.holds l.sources) (g.S.Sources.holds l.fn.sources)
