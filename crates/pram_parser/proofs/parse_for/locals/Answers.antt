use Rattle.std.proofs.Common.{◌∙◌, ◌∷◌}
use Rattle.pram_tokens.specs.declared.token.Mark.TheVariants as mark
use Rattle.pram_trees.specs.Symbols.{Want, Locals}
use Rattle.pram_parser.proofs.StmtParts.{more_locals, at_local}
use Rattle.pram_parser.proofs.parse_for.locals.Goals as goal

pub more-preserved : goal.more-preserved
more-preserved c =
    record {
      spelt = rw c.in_ok-push.ensures.ok (more_locals c.more.names c.in_ok-name.name.now c.in_ok-copied.field-0 c.args.tokens.now
          c.more.rest.now c.in-Some.behind.now c.in_ok-name.behind.now c.in_ok-behind.behind.now
          c.in_ok-copied.ensures.same c.more.invariant.spelt c.in-Some.ensures.front c.in_ok-name.ensures.found
          c.in_ok-behind.ensures.found);
      moves = λ k. c.more.invariant.moves k ∙ at_local c.more.rest.now c.in-Some.behind.now c.in-Some.ensures.front k
          ∙ c.in_ok-name.ensures.follows (Want mark.Semicolon ∷ (Locals ∷ k)) ∙ c.in_ok-behind.ensures.follows (Locals ∷ k);
    }
