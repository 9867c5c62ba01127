use Rattle.std.proofs.Common.{◌≡◌, ◌∷◌, ◌++◌, length}
use Rattle.pram_trees.specs.Program.{declarations_tokens}
use Rattle.pram_trees.specs.Machine.{verdict}
use Rattle.pram_trees.specs.Symbols.{Stack, Declarations}
use Rattle.pram_parser.proofs.parse_decl.declarations.Given as goal

abbrev pub invariant-more : goal.invariant-more
invariant-more l = record {
  spelt : l.tokens ≡ declarations_tokens l.declared ++ l.rest;
  moves : (k : Stack) → verdict l.tokens (Declarations ∷ k) ≡ verdict l.rest (Declarations ∷ k);
}

abbrev pub decreases-more : goal.decreases-more
decreases-more l = length l.rest
