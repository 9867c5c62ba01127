use Rattle.pram_parser.proofs.StmtParts.{found_low}
use Rattle.pram_parser.proofs.parse_for.low_and_index.Goals as goal

pub returns-clause-found : goal.returns-clause-found
returns-clause-found c =
    found_low _ _ _ _ _ _ _ _ _ c.in_ok-copied.ensures.same c.in_ok-low.ensures.found c.in_ok-rest.ensures.found
    c.in_ok-name.ensures.found c.in_ok-rest-2.ensures.found
