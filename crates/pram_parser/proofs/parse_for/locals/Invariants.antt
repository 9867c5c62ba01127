use Rattle.std.proofs.Common.{◌≡◌, ◌∷◌, ◌++◌, length}
use Rattle.pram_trees.specs.Blocks.{local_tokens}
use Rattle.pram_trees.specs.Machine.{verdict}
use Rattle.pram_trees.specs.Symbols.{Stack, Locals}
use Rattle.pram_parser.proofs.parse_for.locals.Given as goal

abbrev pub invariant-more : goal.invariant-more
invariant-more l = record {
  spelt : l.tokens ≡ local_tokens l.names ++ l.rest;
  moves : (k : Stack) → verdict l.tokens (Locals ∷ k) ≡ verdict l.rest (Locals ∷ k);
}

abbrev pub decreases-more : goal.decreases-more
decreases-more l = length l.rest
