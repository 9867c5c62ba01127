use Rattle.std.proofs.Common.{◌++◌}
use Rattle.std.proofs.lemmas.Result.{on_ok_weaker}
use Rattle.json_texts.proofs.Small.{put_then}
use Rattle.json_texts.specs.Shown.{shown}
use Rattle.comparing.specs.Found.{found_is}
use Rattle.json_texts.specs.GradeFacts.{marks_fields, score_fields}
use Rattle.json_texts.specs.PairFacts.{first_fields}
use Rattle.json_texts.proofs.grade.put_found.Goals as goal

pub returns : goal.returns
returns c =
    let f = found_is c.args.comparison.now in
    let tried = score_fields f.score ++ first_fields c.args.first.now c.args.second.now f.told in
    on_ok_weaker c.put_tried.result (λ put.
    put_then (marks_fields c.args.marks) tried (shown c.args.object.now) (shown c.put_marks.new.object) (shown c.put_tried.new.object)
    c.in_ok-put_marks.ensures put)
    c.put_tried.ensures
