-- Reaches that have no cell in common.
use Rattle.std.specs.Prelude.{◌≡◌, ℕ, List, Option, Some, slice_get}
use Rattle.abstract_runs.specs.declared.reach.Reach.{Reach}
use Rattle.abstract_runs.specs.Covers.{IsReached}

-- one of them reaches that cell
pub record Reaches (reaches : List (Option Reach)) (k c : ℕ) : Type 0 where
  pub reach : Reach
  pub is : slice_get reaches k ≡ Some (Some reach)
  pub reached : IsReached c reach

-- each cell is reached by one of them at most
abbrev pub AreApart : List (Option Reach) → Type 0
AreApart reaches = (j k c : ℕ) → Reaches reaches j c → Reaches reaches k c → j ≡ k
