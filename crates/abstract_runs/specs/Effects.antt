-- What attempts at assignments give, and what is known of it.
use Rattle.std.specs.Prelude.{ℕ, Option, Some, None, IsSomeAnd}
use Rattle.intervals.specs.Intervals.{IsIn}
use Rattle.pram_meaning.specs.Attempt as meant
use Rattle.abstract_runs.specs.declared.effect.Effect.{Effect}
use Rattle.abstract_runs.specs.declared.reach.Reach.{Reach}
use Rattle.abstract_runs.specs.Covers.{IsReached}

-- a cell that is reached, or no cell where none is
abbrev pub IsGoneTo : Option Reach → Option ℕ → Type 0
IsGoneTo None None = Unit {0}
IsGoneTo (Some reach) (Some c) = IsReached c reach
IsGoneTo reach cell = ⊥

-- the value lies in the interval, and goes to one of the cells, or to none
pub record IsGiven (known : Effect) (given : meant.Effect) : Type 0 where
  pub value : IsIn given.value known.value
  pub cell : IsGoneTo known.reach given.cell

-- something is given, and it is of this kind
abbrev pub IsGivenBy : Option Effect → meant.Effect → Type 0
IsGivenBy known given = IsSomeAnd known (λ k. IsGiven k given)
