use Rattle.std.proofs.Common.{◌∙◌, ◌-◌, ◌∷◌, sym}
use Rattle.pram_tokens.specs.declared.token.Mark.TheVariants as mark
use Rattle.pram_trees.specs.Blocks.{IsFurtherBlock}
use Rattle.pram_trees.specs.Symbols.{Want, Statements, Else}
use Rattle.pram_parser.proofs.Exits.{exit, along, all_of, statement_rest, block_rest}
use Rattle.pram_parser.proofs.StmtParts as parts
use Rattle.pram_parser.proofs.parse_stmt.+block.Goals as goal

pub block-returns-in_err-found-clause-follows : goal.block-returns-in_err-found-clause-follows
block-returns-in_err-found-clause-follows t c =
    exit block_rest statement_rest c.from_residual.result _ c.from_residual.ensures.1 c.in_err-found.ensures.follows
    (λ k. (
      Statements c.args.blocks c.args.depth ∷ k,
      c.more.invariant.moves k
          ∙ parts.statement_first c.args.blocks c.args.depth c.more.rest.now (sym c.more-test.ensures.value) k,
    ))

pub block-more-preserved : goal.block-more-preserved
block-more-preserved t c =
    record {
      are = rw c.in_ok-push.ensures.ok (parts.AreStatements-push c.args.depth (IsFurtherBlock c.args.blocks c.args.depth) c.more.body
          c.in_ok-found.found c.more.invariant.are c.in_ok-found.ensures.found.0);
      spelt = rw c.in_ok-push.ensures.ok (parts.spelt_more c.more.body c.in_ok-found.found c.args.tokens.now c.more.rest.now
          c.in_ok-found.after.now c.more.invariant.spelt c.in_ok-found.ensures.found.1);
      moves = λ k. c.more.invariant.moves k
          ∙ parts.statement_first c.args.blocks c.args.depth c.more.rest.now (sym c.more-test.ensures.value) k
          ∙ c.in_ok-found.ensures.follows (Statements c.args.blocks c.args.depth ∷ k);
    }

pub block-more-smaller : goal.block-more-smaller
block-more-smaller t c = parts.shorter c.more.rest.now c.in_ok-found.after.now c.in_ok-found.ensures.found.0 c.in_ok-found.ensures.found.1

pub opened-returns-in_ok-value-in-Print-clause-found : goal.opened-returns-in_ok-value-in-Print-clause-found
opened-returns-in_ok-value-in-Print-clause-found t c =
    parts.found_print_at _ _ _ c.args.opening _ _ _ c.in-Print.is c.in_ok-value-in-Print.ensures.found

pub while_loop-returns-clause-found : goal.while_loop-returns-clause-found
while_loop-returns-clause-found t c =
    parts.found_while _ _ _ _ _ _ _ _ c.requires.room c.in_ok-test.ensures.found c.in_ok-turn.ensures.found

pub while_loop-returns-in_err-turn-clause-follows : goal.while_loop-returns-in_err-turn-clause-follows
while_loop-returns-in_err-turn-clause-follows t c =
    exit statement_rest block_rest c.from_residual-in_err-turn.result _ c.from_residual-in_err-turn.ensures.1 c.in_err-turn.ensures.follows
    (λ k. (
      k,
      parts.into_while c.args.blocks c.args.depth 0 c.args.tokens.now c.requires.room k
          ∙ c.in_ok-test.ensures.follows (Statements (c.args.blocks - 1) c.args.depth ∷ (Want mark.End ∷ k)),
    ))

pub choice-returns-in_err-then_part-clause-follows : goal.choice-returns-in_err-then_part-clause-follows
choice-returns-in_err-then_part-clause-follows t c =
    exit statement_rest block_rest c.from_residual-in_err-then_part.result _ c.from_residual-in_err-then_part.ensures.1
    c.in_err-then_part.ensures.follows
    (λ k. (
      Else (c.args.blocks - 1) c.args.depth ∷ (Want mark.End ∷ k),
      parts.into_if c.args.blocks c.args.depth 0 c.args.tokens.now c.requires.room k
          ∙ c.in_ok-test.ensures.follows (Statements (c.args.blocks - 1) c.args.depth
          ∷ (Else (c.args.blocks - 1) c.args.depth ∷ (Want mark.End ∷ k))),
    ))

pub choice-returns-in_err-second-clause-follows : goal.choice-returns-in_err-second-clause-follows
choice-returns-in_err-second-clause-follows t c =
    exit statement_rest block_rest c.from_residual-in_err-second.result _ c.from_residual-in_err-second.ensures.1
    c.in_err-second.ensures.follows
    (λ k. (
      k,
      parts.into_if c.args.blocks c.args.depth 0 c.args.tokens.now c.requires.room k
          ∙ c.in_ok-test.ensures.follows (Statements (c.args.blocks - 1) c.args.depth
          ∷ (Else (c.args.blocks - 1) c.args.depth ∷ (Want mark.End ∷ k)))
          ∙ c.in_ok-then_part.ensures.follows (Else (c.args.blocks - 1) c.args.depth ∷ (Want mark.End ∷ k))
          ∙ parts.at_else (c.args.blocks - 1) c.args.depth c.in_ok-then_part.rest.now c.in-Some.behind.now c.in-Some.ensures.front
          (Want mark.End ∷ k),
    ))

pub choice-returns-in_err-rest-clause-follows : goal.choice-returns-in_err-rest-clause-follows
choice-returns-in_err-rest-clause-follows t c =
    exit statement_rest all_of c.from_residual-in_err-rest.result _ c.from_residual-in_err-rest.ensures.1 c.in_err-rest.ensures.follows
    (λ k. (
      k,
      parts.into_if c.args.blocks c.args.depth 0 c.args.tokens.now c.requires.room k
          ∙ c.in_ok-test.ensures.follows (Statements (c.args.blocks - 1) c.args.depth
          ∷ (Else (c.args.blocks - 1) c.args.depth ∷ (Want mark.End ∷ k)))
          ∙ c.in_ok-then_part.ensures.follows (Else (c.args.blocks - 1) c.args.depth ∷ (Want mark.End ∷ k))
          ∙ parts.no_else (c.args.blocks - 1) c.args.depth c.in_ok-then_part.rest.now c.in_default.ensures.front (Want mark.End ∷ k),
    ))

pub choice-returns-clause-follows : goal.choice-returns-clause-follows
choice-returns-clause-follows t c = λ k.
    parts.into_if c.args.blocks c.args.depth 0 c.args.tokens.now c.requires.room k
    ∙ c.in_ok-test.ensures.follows (Statements (c.args.blocks - 1) c.args.depth
    ∷ (Else (c.args.blocks - 1) c.args.depth ∷ (Want mark.End ∷ k)))
    ∙ c.in_ok-then_part.ensures.follows (Else (c.args.blocks - 1) c.args.depth ∷ (Want mark.End ∷ k))
    ∙ parts.no_else (c.args.blocks - 1) c.args.depth c.in_ok-then_part.rest.now c.in_default.ensures.front (Want mark.End ∷ k)
    ∙ c.in_ok-rest.ensures.follows k

pub choice-returns-clause-found : goal.choice-returns-clause-found
choice-returns-clause-found t c =
    parts.found_if_then _ _ _ _ _ _ _ _ _ c.requires.room c.in_ok-test.ensures.found c.in_ok-then_part.ensures.found
    c.in_ok-rest.ensures.found

pub choice-returns-in-Some-clause-found : goal.choice-returns-in-Some-clause-found
choice-returns-in-Some-clause-found t c =
    parts.found_if_else _ _ _ _ _ _ _ _ _ _ _ c.requires.room c.in_ok-test.ensures.found c.in_ok-then_part.ensures.found
    c.in-Some.ensures.front c.in_ok-second.ensures.found

pub for_loop-returns-clause-found : goal.for_loop-returns-clause-found
for_loop-returns-clause-found t c =
    parts.found_for _ _ _ _ _ _ _ _ _ _ _ _ c.in_ok-copied.ensures.same c.requires.room c.in-Some.ensures.front c.in_ok-low.ensures.found
    c.in_ok-turn.ensures.found

pub for_loop-returns-in_default-clause-follows : goal.for_loop-returns-in_default-clause-follows
for_loop-returns-in_default-clause-follows t c =
    along statement_rest c.range.result c.range.ensures.follows
    (λ k. parts.into_for c.args.blocks c.args.depth 0 c.args.tokens.now c.requires.room k
    ∙ c.in_default.ensures.front (c.args.blocks - 1) c.args.depth k)

pub for_loop-returns-in_err-turn-clause-follows : goal.for_loop-returns-in_err-turn-clause-follows
for_loop-returns-in_err-turn-clause-follows t c =
    exit statement_rest block_rest c.from_residual-in_err-turn.result _ c.from_residual-in_err-turn.ensures.1 c.in_err-turn.ensures.follows
    (λ k. (
      k,
      parts.into_for c.args.blocks c.args.depth 0 c.args.tokens.now c.requires.room k
          ∙ parts.at_loop (c.args.blocks - 1) c.args.depth c.in-Some.name.now c.args.tokens.now c.in-Some.rest.now c.in-Some.ensures.front k
          ∙ c.in_ok-low.ensures.follows (Statements (c.args.blocks - 1) c.args.depth ∷ (Want mark.End ∷ k)),
    ))

pub range-returns-clause-found : goal.range-returns-clause-found
range-returns-clause-found t c =
    parts.found_range _ _ _ _ _ _ _ _ _ _ _ c.requires.room c.in_ok-bounds.ensures.found c.in_ok-each.ensures.found
