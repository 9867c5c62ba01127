use Rattle.pram_parser.proofs.StmtParts.{found_bounds}
use Rattle.pram_parser.proofs.parse_for.pardo_head.Goals as goal

pub returns-clause-found : goal.returns-clause-found
returns-clause-found c =
    found_bounds _ _ _ _ c.in_ok-high.locals _ _ c.in_ok-high.rest.now c.in_ok-low.ensures.found c.in_ok-high.ensures.found
