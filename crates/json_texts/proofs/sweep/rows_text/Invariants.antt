use Rattle.std.proofs.Common.{drop, map, string_bytes}
use Rattle.json_texts.proofs.Json.{SoFar}
use Rattle.json_texts.specs.SweepFacts.{row_facts}
use Rattle.json_texts.proofs.sweep.rows_text.Given as goal

abbrev pub invariant-loop-row : goal.invariant-loop-row
invariant-loop-row l =
    SoFar (map (row_facts l.name) l.rows) (map (row_facts l.name) (drop l.row-index l.rows)) (string_bytes l.text)
