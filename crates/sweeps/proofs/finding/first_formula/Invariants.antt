use Rattle.std.proofs.Common.{◌≤◌}
use Rattle.sweeps.specs.declared.formula.Formula.{Formula}
use Rattle.sweeps.specs.Formulas.{term_count}
use Rattle.sweeps.specs.Tables.{IsCandidate}
use Rattle.sweeps.proofs.finding.first_formula.Given as goal

abbrev pub invariant-loop-count : goal.invariant-loop-count
invariant-loop-count l = (g : Formula) → IsCandidate g l.table → l.count ≤ term_count g
