-- Parts of a set that attempted a statement without a fault.
use Rattle.std.specs.Prelude.{◌≡◌, ℕ, List, None, map}
use Rattle.pram_check.specs.Checked.{Checked}
use Rattle.pram_meaning.specs.Conflict.{Part, keys, least}
use Rattle.abstract_runs.specs.declared.findings.Findings.{Findings}
use Rattle.abstract_runs.specs.declared.row.Row.{Row}
use Rattle.abstract_runs.specs.Rows.{ArePartsBy}

-- the parts of these members, of which that is known, none of which has a fault
pub record IsAttempted (p : Checked) (rows : List Row) (vs : List ℕ) (xs : List Part) : Type 0 where
  pub faults : Findings
  pub parts : ArePartsBy faults rows xs
  pub members : map (λ (x : Part). x.member) xs ≡ vs
  pub faultless : least (keys p.rule xs) ≡ None
