use Rattle.std.proofs.Common.{drop, map, string_bytes}
use Rattle.json_texts.proofs.Json.{SoFar}
use Rattle.comparing.specs.Found.{differing_is}
use Rattle.json_texts.specs.PairFacts.{differing_facts}
use Rattle.json_texts.proofs.pair.differing_text.Given as goal

abbrev pub invariant-loop-found : goal.invariant-loop-found
invariant-loop-found l =
    SoFar (map (differing_facts l.first l.second) (map differing_is l.told))
    (map (differing_facts l.first l.second) (map differing_is (drop l.found-index l.told))) (string_bytes l.text)
