-- The parts of those who surely take part.
use Rattle.std.proofs.Common.{◌≡◌, ℕ, zero, suc, ◌<◌, List, [], ◌∷◌, length, sym, ◌∙◌, true, arith, get_or}
use Rattle.std.specs.List.{Contains}
use Rattle.pram_meaning.specs.Conflict.{Part}
use Rattle.abstract_runs.specs.declared.findings.Findings.{Findings}
use Rattle.abstract_runs.specs.declared.row.Row.{Row}
use Rattle.abstract_runs.specs.Rows.{ArePartsBy, IsPartBy}
use Rattle.abstract_runs.specs.Rows as rows
use Rattle.abstract_runs.proofs.Among.{deeper, first}

-- one of them is the row's
pub record HasPartBy (faults : Findings) (row : Row) (xs : List Part) : Type 0 where
  pub one : Part
  pub among : Contains xs one
  pub by : IsPartBy faults row one

pub sure_part : (faults : Findings) (known : List Row) (k : ℕ) (d : Row) (xs : List Part) → k < length known →
    (get_or known k d).is_sure ≡ true → ArePartsBy faults known xs → HasPartBy faults (get_or known k d) xs
sure_part faults [] k d xs below sure parts = absurd (omega (arith, below))
sure_part faults (row ∷ known) zero d (x ∷ xs) below sure (rows.takes part parts) = record { one = x; among = first x xs; by = part }
sure_part faults (row ∷ known) (suc k) d (x ∷ xs) below sure (rows.takes part parts) =
    let h = sure_part faults known k d xs (omega (arith, below)) sure parts in
    record { one = h.one; among = deeper x xs h.one h.among; by = h.by }
sure_part faults (row ∷ known) zero d xs below sure (rows.passes unsure parts) = absurd (cc (sym unsure ∙ sure))
sure_part faults (row ∷ known) (suc k) d xs below sure (rows.passes unsure parts) =
    sure_part faults known k d xs (omega (arith, below)) sure parts
