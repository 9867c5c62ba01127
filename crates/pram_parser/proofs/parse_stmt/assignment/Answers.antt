use Rattle.std.proofs.Common.{◌∷◌}
use Rattle.pram_tokens.specs.declared.token.Mark.TheVariants as mark
use Rattle.pram_trees.specs.declared.level.Level.TheVariants as level
use Rattle.pram_trees.specs.Symbols.{Operand, Want}
use Rattle.pram_parser.proofs.Exits.{exit, all_of, statement_rest}
use Rattle.pram_parser.proofs.StmtParts as parts
use Rattle.pram_parser.proofs.parse_stmt.assignment.Goals as goal

pub returns-in-Some-clause-follows : goal.returns-in-Some-clause-follows
returns-in-Some-clause-follows c = c.element_assignment.ensures.follows c.args.blocks

pub returns-clause-found : goal.returns-clause-found
returns-clause-found c = parts.found_assign _ _ _ _ _ _ _ _ c.in_ok-target.ensures.same c.in_ok-rest.ensures.found
    c.in_ok-value.ensures.found

pub returns-in_err-rest-clause-follows : goal.returns-in_err-rest-clause-follows
returns-in_err-rest-clause-follows c =
    exit statement_rest all_of c.from_residual.result _ c.from_residual.ensures.1 c.in_err-rest.ensures.follows
    (λ k. (
      Operand level.Expression c.args.depth ∷ (Want mark.Semicolon ∷ k),
      parts.no_element c.args.blocks c.args.depth c.args.tokens.now c.in_default.ensures.front k,
    ))
