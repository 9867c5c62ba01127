use Rattle.std.proofs.Common.{[], ◌∷◌, List, length, map, subst}
use Rattle.std.specs.Prelude.{string_bytes}
use Rattle.json_texts.proofs.Json.{adds_then}
use Rattle.json_texts.specs.GradeFacts.{passing_facts}
use Rattle.json_texts.specs.Lines.{Adds, IsJson}
use Rattle.command_facts.specs.Grades.{passing}
use Rattle.command_facts.specs.declared.found.GradeRow.{GradeRow}
use Rattle.command_json.specs.Grades.{row_facts}
use Rattle.command_json.proofs.grading.grade_text.Goals as goal

pub returns : goal.returns
returns c =
    let rows = c.args.found.now.rows.items in
    let last = λ (rows : List GradeRow). passing_facts (passing rows) (length rows) ∷ [] in
    let lines = subst (λ (rows : List GradeRow). IsJson (map row_facts rows) (string_bytes c.in_ok-text.text)) c.deref.ensures.value
    c.in_ok-text.ensures.json in
    let behind = subst (λ (rows : List GradeRow). Adds (last rows) (string_bytes c.in_ok-text.text) (string_bytes c.push_count.new.text))
    c.deref-2.ensures.value c.in_ok-push_count.ensures.json in
    record { told = adds_then (map row_facts rows) (last rows) [] _ _ lines behind }
