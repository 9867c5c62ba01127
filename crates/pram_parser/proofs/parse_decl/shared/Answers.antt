use Rattle.pram_trees.specs.Symbols.{bounds}
use Rattle.pram_parser.proofs.Exits.{exit, all_of, declaration_rest}
use Rattle.pram_parser.proofs.DeclParts.{no_semicolon}
use Rattle.pram_parser.proofs.parse_decl.shared.Goals as goal

pub returns-in_err-rest-clause-follows : goal.returns-in_err-rest-clause-follows
returns-in_err-rest-clause-follows c =
    exit declaration_rest all_of c.from_residual-in_err-rest.result _ c.from_residual-in_err-rest.ensures.1 c.in_err-rest.ensures.follows
    (λ k. (bounds k, no_semicolon c.args.tokens.now c.in_default.ensures.front k))
