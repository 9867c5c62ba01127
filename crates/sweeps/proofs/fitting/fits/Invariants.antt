use Rattle.std.proofs.Common.{ℕ, pos, ◌<◌, get_or}
use Rattle.sweeps.specs.declared.row.Row.{Row}
use Rattle.sweeps.specs.Formulas.{IsValue}
use Rattle.sweeps.proofs.fitting.fits.Given as goal

-- the rows so far have the formula's values
abbrev pub invariant-loop-row : goal.invariant-loop-row
invariant-loop-row l =
    (k : ℕ) (d : Row) → k < l.row-index → IsValue l.fn.formula (get_or l.table k d).size (pos (get_or l.table k d).number)
