use Rattle.std.proofs.Common.{◌∙◌, ◌∷◌, sym}
use Rattle.pram_trees.specs.Symbols.{Declarations}
use Rattle.pram_parser.proofs.Exits.{exit, declaration_rest, declarations_rest}
use Rattle.pram_parser.proofs.DeclParts.{declared_more, declaration_first, declaration_shorter}
use Rattle.pram_parser.proofs.parse_decl.declarations.Goals as goal

pub more-preserved : goal.more-preserved
more-preserved c =
    record {
      spelt = rw c.in_ok-push.ensures.ok (declared_more c.more.declared c.in_ok-found.found c.args.tokens.now c.more.rest.now
          c.in_ok-found.after.now c.more.invariant.spelt c.in_ok-found.ensures.found);
      moves = λ k. c.more.invariant.moves k ∙ declaration_first c.more.rest.now (sym c.more-test.ensures.value) k
          ∙ c.in_ok-found.ensures.follows (Declarations ∷ k);
    }

pub more-smaller : goal.more-smaller
more-smaller c = declaration_shorter c.in_ok-found.found c.more.rest.now c.in_ok-found.after.now c.in_ok-found.ensures.found

pub returns-in_err-found-clause-follows : goal.returns-in_err-found-clause-follows
returns-in_err-found-clause-follows c =
    exit declarations_rest declaration_rest c.from_residual.result _ c.from_residual.ensures.1 c.in_err-found.ensures.follows
    (λ k. (Declarations ∷ k, c.more.invariant.moves k ∙ declaration_first c.more.rest.now (sym c.more-test.ensures.value) k))
