use Rattle.std.proofs.Common.{◌≡◌, ◌∷◌, ◌++◌, length, ◌+◌, ◌*◌}
use Rattle.pram_trees.specs.Blocks.{block_tokens, IsBlock}
use Rattle.pram_trees.specs.Machine.{verdict}
use Rattle.pram_trees.specs.Symbols.{Stack, Statements}
use Rattle.pram_parser.proofs.parse_stmt.+block.Given as goal

abbrev pub decreases-block : goal.decreases-block
decreases-block l = 8 * l.blocks + 4

abbrev pub decreases-body : goal.decreases-body
decreases-body l = 8 * l.blocks + 5

abbrev pub decreases-statement : goal.decreases-statement
decreases-statement l = 8 * l.blocks + 3

abbrev pub decreases-opened : goal.decreases-opened
decreases-opened l = 8 * l.blocks + 2

abbrev pub decreases-while_loop : goal.decreases-while_loop
decreases-while_loop l = 8 * l.blocks + 1

abbrev pub invariant-block-more : goal.invariant-block-more
invariant-block-more l = record {
  are : IsBlock l.blocks l.depth l.body;
  spelt : l.tokens ≡ block_tokens l.body ++ l.rest;
  moves : (k : Stack) → verdict l.tokens (Statements l.blocks l.depth ∷ k) ≡ verdict l.rest (Statements l.blocks l.depth ∷ k);
}

abbrev pub decreases-block-more : goal.decreases-block-more
decreases-block-more l = length l.rest

abbrev pub decreases-choice : goal.decreases-choice
decreases-choice l = 8 * l.blocks + 1

abbrev pub decreases-for_loop : goal.decreases-for_loop
decreases-for_loop l = 8 * l.blocks + 1

abbrev pub decreases-range : goal.decreases-range
decreases-range l = 8 * l.blocks + 0
