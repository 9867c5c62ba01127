use Rattle.std.proofs.Common.{◌≡◌, ◌+◌, ◌*◌, ◌≤◌, ℕ, length}
use Rattle.sized_texts.specs.declared.line.Line.{Line}
use Rattle.sized_texts.specs.declared.line.Line.TheVariants as line
use Rattle.sized_texts.specs.Expressions.{at_line, further, more, tight}
use Rattle.sized_texts.proofs.expression.+expression.Given as goal

abbrev rank : Line → ℕ
rank line.Sum = 2
rank line.Product = 0

abbrev pub decreases-inner : goal.decreases-inner
decreases-inner l = 16 * l.depth

abbrev pub decreases-nested : goal.decreases-nested
decreases-nested l = 16 * l.depth + 1

abbrev pub decreases-group : goal.decreases-group
decreases-group l = 16 * l.depth + 2

abbrev pub decreases-call : goal.decreases-call
decreases-call l = 16 * l.depth + 3

abbrev pub decreases-power : goal.decreases-power
decreases-power l = 16 * l.depth + 3

abbrev pub decreases-operand_by : goal.decreases-operand_by
decreases-operand_by l = 16 * l.depth + 4

abbrev pub decreases-operand : goal.decreases-operand
decreases-operand l = 16 * l.depth + 5

abbrev pub decreases-tight : goal.decreases-tight
decreases-tight l = 16 * l.depth + 6 + rank l.line

abbrev pub decreases-chain : goal.decreases-chain
decreases-chain l = 16 * l.depth + 7 + rank l.line

abbrev pub invariant-chain-loop-operator : goal.invariant-chain-loop-operator
invariant-chain-loop-operator l =
    let Operand = tight l.sizes (further l.sizes l.depth) l.line in
    (n : ℕ) × (length l.rest ≤ n) × (length l.rest ≤ length l.text)
    × (more l.line Operand n l.value l.rest ≡ at_line l.sizes (further l.sizes l.depth) l.line l.text)

abbrev pub decreases-chain-loop-operator : goal.decreases-chain-loop-operator
decreases-chain-loop-operator l = length l.rest
