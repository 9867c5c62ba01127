use Rattle.std.proofs.Common.{◌∙◌, ◌∷◌}
use Rattle.pram_tokens.specs.declared.token.Mark.TheVariants as mark
use Rattle.pram_trees.specs.declared.level.Level.TheVariants as level
use Rattle.pram_trees.specs.Symbols.{Operand, Want, assignment}
use Rattle.pram_parser.proofs.Exits.{exit, rest_of, all_of, statement_rest}
use Rattle.pram_parser.proofs.StmtParts as parts
use Rattle.pram_parser.proofs.parse_stmt.element_assignment.Goals as goal

pub returns-clause-found : goal.returns-clause-found
returns-clause-found c b =
    parts.found_assign_element b _ _ _ _ _ _ _ _ _ _ c.in_ok-target.ensures.same c.if-depth-eq0.false c.requires.front
    c.in_ok-subscript.ensures.found c.in_ok-rest.ensures.found c.in_ok-value.ensures.found

pub returns-in_err-subscript-clause-follows : goal.returns-in_err-subscript-clause-follows
returns-in_err-subscript-clause-follows c b =
    exit statement_rest rest_of c.from_residual.result _ c.from_residual.ensures.1
    c.in_err-subscript.ensures.follows
    (λ k. (
      assignment c.args.depth k,
      parts.into_element b c.args.depth c.args.tokens.now c.args.inside.now c.if-depth-eq0.false c.requires.front k,
    ))

pub returns-in_err-rest-clause-follows : goal.returns-in_err-rest-clause-follows
returns-in_err-rest-clause-follows c b =
    exit statement_rest all_of c.from_residual-in_err-rest.result _ c.from_residual-in_err-rest.ensures.1 c.in_err-rest.ensures.follows
    (λ k. (
      Operand level.Expression c.args.depth ∷ (Want mark.Semicolon ∷ k),
      parts.into_element b c.args.depth c.args.tokens.now c.args.inside.now c.if-depth-eq0.false c.requires.front k
          ∙ c.in_ok-subscript.ensures.follows (assignment c.args.depth k),
    ))

pub returns-in_err-value-clause-follows : goal.returns-in_err-value-clause-follows
returns-in_err-value-clause-follows c b =
    exit statement_rest rest_of c.from_residual-in_err-value.result _ c.from_residual-in_err-value.ensures.1 c.in_err-value.ensures.follows
    (λ k. (
      k,
      parts.into_element b c.args.depth c.args.tokens.now c.args.inside.now c.if-depth-eq0.false c.requires.front k
          ∙ c.in_ok-subscript.ensures.follows (assignment c.args.depth k)
          ∙ c.in_ok-rest.ensures.follows (Operand level.Expression c.args.depth ∷ (Want mark.Semicolon ∷ k)),
    ))
