use Rattle.std.proofs.Common.{◌∷◌}
use Rattle.pram_tokens.specs.declared.token.Mark.TheVariants as mark
use Rattle.pram_trees.specs.Symbols.{Want, WantName}
use Rattle.pram_parser.proofs.Exits.{exit, all_of, declaration_rest}
use Rattle.pram_parser.proofs.DeclParts.{no_shared}
use Rattle.pram_parser.proofs.parse_decl.declaration.Goals as goal

pub returns-in_err-rest-clause-follows : goal.returns-in_err-rest-clause-follows
returns-in_err-rest-clause-follows c =
    exit declaration_rest all_of c.from_residual-in_err-rest.result _ c.from_residual-in_err-rest.ensures.1 c.in_err-rest.ensures.follows
    (λ k. (WantName ∷ (Want mark.Semicolon ∷ k), no_shared c.args.tokens.now c.in_default.ensures.front k))
