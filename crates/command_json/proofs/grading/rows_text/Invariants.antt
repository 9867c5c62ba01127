use Rattle.std.proofs.Common.{drop, map, string_bytes}
use Rattle.json_texts.proofs.Json.{SoFar}
use Rattle.command_json.specs.Grades.{row_facts}
use Rattle.command_json.proofs.grading.rows_text.Given as goal

abbrev pub invariant-loop-row : goal.invariant-loop-row
invariant-loop-row l = SoFar (map row_facts l.rows) (map row_facts (drop l.row-index l.rows)) (string_bytes l.text)
