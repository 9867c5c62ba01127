use Rattle.pram_parser.proofs.StmtParts.{found_high}
use Rattle.pram_parser.proofs.parse_for.high_and_locals.Goals as goal

pub returns-clause-found : goal.returns-clause-found
returns-clause-found c =
    found_high _ _ c.in_ok-names.names _ _ _ c.in_ok-names.rest.now c.in_ok-high.ensures.found c.in_ok-rest.ensures.found
    c.in_ok-names.ensures.found
