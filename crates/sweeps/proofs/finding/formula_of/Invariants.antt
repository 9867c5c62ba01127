use Rattle.std.proofs.Common.{◌≡◌, ◌≤◌}
use Rattle.sweeps.specs.declared.formula.Formula.{Formula}
use Rattle.sweeps.specs.Formulas.{term_count}
use Rattle.sweeps.specs.Tables.{IsCandidate, term_set}
use Rattle.sweeps.proofs.finding.formula_of.Given as goal

abbrev pub invariant-loop-bits : goal.invariant-loop-bits
invariant-loop-bits l = (g : Formula) → IsCandidate g l.table → term_count g ≡ l.count → l.bits ≤ term_set g
