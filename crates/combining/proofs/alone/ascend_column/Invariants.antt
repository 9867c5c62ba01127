use Rattle.std.proofs.Common.{ℕ, length}
use Rattle.address_map.specs.Lawful.{Shape}
use Rattle.combining.specs.Alone.{cells_put, AscendTo}
use Rattle.combining.proofs.alone.ascend_column.Given as goal

abbrev pub invariant-loop-rest : goal.invariant-loop-rest
invariant-loop-rest g l =
    let rule = g.R.WriteRule.rule l.rule in
    (m : Shape) (j k : ℕ) → AscendTo l.least (cells_put rule m j l.rest) k → AscendTo l.from (cells_put rule m j l.words) k

abbrev pub decreases-loop-rest : goal.decreases-loop-rest
decreases-loop-rest g l = length l.rest
