use Rattle.std.proofs.Common.{◌∙◌, ap, List, map}
use Rattle.std.proofs.lemmas.Result.{on_ok_weaker}
use Rattle.json_texts.proofs.Small.{put_then}
use Rattle.json_texts.specs.Facts.{with_fields}
use Rattle.json_texts.specs.Shown.{shown}
use Rattle.comparing.specs.Found.{differing_is, found_is}
use Rattle.comparing.specs.declared.comparison.FoundDifference.{FoundDifference}
use Rattle.json_texts.specs.GradeFacts.{score_fields}
use Rattle.json_texts.specs.PairFacts.{first_fields}
use Rattle.json_texts.proofs.grade.put_tried.Goals as goal

pub returns : goal.returns
returns c =
    let f = found_is c.args.comparison.now in
    let first = c.args.first.now in
    let second = c.args.second.now in
    let fields = λ (told : List FoundDifference). first_fields first second (map differing_is told) in
    on_ok_weaker c.put_first.result (λ put.
    put_then (score_fields f.score) (first_fields first second f.told) (shown c.args.object.now) (shown c.put_score.new.object)
    (shown c.put_first.new.object) c.in_ok-put_score.ensures
    (put ∙ ap (λ (told : List FoundDifference). with_fields (fields told) (shown c.put_score.new.object)) c.deref.ensures.value))
    c.put_first.ensures
