use Rattle.std.proofs.Common.{List, map}
use Rattle.json_texts.proofs.Json.{goes_on}
use Rattle.text_out.proofs.Items.{at_item}
use Rattle.comparing.specs.Found.{differing_is}
use Rattle.comparing.specs.declared.comparison.FoundDifference.{FoundDifference}
use Rattle.json_texts.specs.PairFacts.{differing_facts}
use Rattle.json_texts.proofs.pair.differing_text.Goals as goal

pub loop-found-preserved : goal.loop-found-preserved
loop-found-preserved c =
    let facts = differing_facts c.args.first.now c.args.second.now in
    let at = at_item (λ (told : List FoundDifference). map facts (map differing_is told)) c.args.told.now c.loop-found.found-index
    c.found-item.result c.loop-found-test.true c.found-item.is in
    goes_on _ _ _ _ _ _ c.loop-found.invariant at c.in_ok-push_differing.ensures.json
