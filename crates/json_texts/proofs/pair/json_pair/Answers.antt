use Rattle.std.proofs.Common.{[], ◌∷◌, List, map, subst}
use Rattle.std.specs.Prelude.{string_bytes}
use Rattle.json_texts.proofs.Json.{adds_then}
use Rattle.json_texts.specs.Lines.{IsJson}
use Rattle.comparing.specs.Found.{differing_is, found_is}
use Rattle.comparing.specs.declared.comparison.FoundDifference.{FoundDifference}
use Rattle.json_texts.specs.PairFacts.{differing_facts, whole_facts}
use Rattle.json_texts.proofs.pair.json_pair.Goals as goal

pub returns : goal.returns
returns c =
    let facts = differing_facts c.args.first.now c.args.second.now in
    let f = found_is c.args.comparison.now in
    let whole = whole_facts c.args.first.now c.args.second.now c.args.precondition.now c.args.cells f in
    let lines = subst (λ (told : List FoundDifference). IsJson (map facts (map differing_is told)) (string_bytes c.in_ok-text.text))
    c.deref.ensures.value c.in_ok-text.ensures.json in
    record { json = adds_then (map facts f.told) (whole ∷ []) [] _ _ lines c.in_ok-push_whole.ensures.json }
