use Rattle.std.proofs.Common.{◌∷◌, ◌++◌, ◌∙◌, [], ap}
use Rattle.std.proofs.lemmas.Result.{on_ok_weaker}
use Rattle.std.specs.Prelude.{codes}
use Rattle.serde_json.specs.Data.{put}
use Rattle.json_texts.proofs.Small.{put_then}
use Rattle.json_texts.specs.Shown.{shown}
use Rattle.json_texts.specs.OverallFacts.{end_fields, scope_facts, told_fields}
use Rattle.json_texts.proofs.overall.put_overall.Goals as goal

pub returns : goal.returns
returns c =
    let o = c.args.overall.now in
    let told = told_fields c.args.layout.now o in
    let end = end_fields c.args.layout.now o.end in
    let before = shown c.args.object.now in
    let scoped = shown c.put.new.self in
    let all = shown c.put_end.new.object in
    let first = c.in_ok-put.ensures.ok ∙ ap (λ d. put (codes "scope") d before) c.in_ok-facts.ensures in
    on_ok_weaker c.put_end.result (λ last.
    put_then ((codes "scope", scope_facts c.args.scope) ∷ []) (told ++ end) before scoped all first
    (put_then told end scoped (shown c.put_told.new.object) all c.in_ok-put_told.ensures last)) c.put_end.ensures
