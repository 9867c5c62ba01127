use Rattle.std.proofs.Common.{◌<◌, ◌+◌, ◌++◌, ◌∙◌, ap, append-nil, arith, drop, map, subst, sym}
use Rattle.std.proofs.lemmas.List.{drop_all}
use Rattle.serde_json.specs.View.{view}
use Rattle.json_texts.proofs.DeclarationFacts.{chosen_memory, memory_at, some_more}
use Rattle.json_texts.proofs.memory.memory_of.Goals as goal

pub loop-i-preserved : goal.loop-i-preserved
loop-i-preserved c =
    let choice = c.args.choice in
    let layout = c.args.layout.now in
    let all = chosen_memory choice layout c.args.memory.now in
    let left = chosen_memory choice (drop (c.loop-i.i + 1) layout) c.parted.result.1.now in
    let at = memory_at choice layout c.loop-i.i c.loop-i.rest.now _ _ _ _ _
    (subst (λ n. c.loop-i.i < n) c.len-i-end.ensures c.loop-i-test.true) c.name.ensures c.bounds-bounds.ensures c.size.ensures
    c.parted.ensures.first c.parted.ensures.others in
    some_more all _ left (map view c.loop-i.list.items) (map view c.push_if_chosen.new.list.items) _ c.loop-i.invariant at
    c.in_ok-push_if_chosen.ensures

pub returns : goal.returns
returns c =
    let now = map view c.loop-i.list.items in
    let count = c.len-i-end.ensures in
    let off = c.loop-i-test.false in
    sym (c.loop-i.invariant
    ∙ ap (λ es. now ++ chosen_memory c.args.choice es c.loop-i.rest.now)
    (drop_all c.loop-i.i c.args.layout.now (omega (arith, off, count)))
    ∙ append-nil now)
