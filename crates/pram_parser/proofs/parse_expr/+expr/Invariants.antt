use Rattle.std.proofs.Common.{◌≡◌, ◌∷◌, ◌++◌, length, ◌+◌, ◌*◌}
use Rattle.pram_trees.specs.Grammar.{tokens, step_tokens, Fits, AreSteps}
use Rattle.pram_trees.specs.Machine.{verdict}
use Rattle.pram_trees.specs.Symbols.{Stack, Operand, Rest, tighter}
use Rattle.pram_parser.proofs.Ranks.{rank}
use Rattle.pram_parser.proofs.parse_expr.+expr.Given as goal

abbrev pub decreases-atom : goal.decreases-atom
decreases-atom l = 32 * l.depth + 4

abbrev pub decreases-chained : goal.decreases-chained
decreases-chained l = 32 * l.depth + rank l.level

abbrev pub decreases-comparison : goal.decreases-comparison
decreases-comparison l = 32 * l.depth + 12

abbrev pub decreases-named : goal.decreases-named
decreases-named l = 32 * l.depth + 1

abbrev pub decreases-negation : goal.decreases-negation
decreases-negation l = 32 * l.depth + 14

abbrev pub decreases-nested : goal.decreases-nested
decreases-nested l = 32 * l.depth

abbrev pub decreases-operand : goal.decreases-operand
decreases-operand l = 32 * l.depth + rank l.level + 1

abbrev pub decreases-prefixed : goal.decreases-prefixed
decreases-prefixed l = 32 * l.depth

abbrev pub decreases-unary : goal.decreases-unary
decreases-unary l = 32 * l.depth + 6

abbrev pub invariant-chained-loop-op : goal.invariant-chained-loop-op
invariant-chained-loop-op l = record {
  one : Fits l.depth (tighter l.level) l.first;
  more : AreSteps l.level (Fits l.depth (tighter l.level)) l.steps;
  spelt : l.tokens ≡ (tokens l.first ++ step_tokens l.steps) ++ l.rest;
  moves : (k : Stack) → verdict l.tokens (Operand l.level l.depth ∷ k) ≡ verdict l.rest (Rest l.level l.depth ∷ k);
}

abbrev pub decreases-chained-loop-op : goal.decreases-chained-loop-op
decreases-chained-loop-op l = length l.rest
