use Rattle.std.proofs.Common.{List, [], ◌∷◌, ◌++◌, codes}
use Rattle.std.proofs.lemmas.Result.{on_ok_weaker}
use Rattle.json_texts.proofs.Small.{put_then}
use Rattle.json_texts.specs.Facts.{Field, word}
use Rattle.json_texts.specs.Shown.{shown}
use Rattle.json_texts.specs.CostFacts.{most_fields}
use Rattle.json_texts.specs.SweepFacts.{count_fields}
use Rattle.json_texts.proofs.sweep.put_run.Goals as goal

pub returns : goal.returns
returns c =
    let counts = c.args.counts.now in
    let outcome : List Field = (codes "outcome", word c.args.way.now) ∷ [] in
    let most = most_fields counts.most_exchanges counts.most_words in
    let told = shown c.put_word.new.self in
    let bounded = shown c.put_most.new.object in
    let all = shown c.put_counts.new.object in
    on_ok_weaker c.put_counts.result (λ put.
    put_then outcome (most ++ count_fields counts) (shown c.args.object.now) told all c.in_ok-put_word.ensures.ok
    (put_then most (count_fields counts) told bounded all c.in_ok-put_most.ensures put)) c.put_counts.ensures
