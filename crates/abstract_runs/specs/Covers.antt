-- Values that lie in intervals: what a state that stands for others says of one of them.
use Rattle.std.specs.Prelude.{◌≡◌, ℕ, ◌≤◌, Option, IsSomeAnd, ℤ}
use Rattle.intervals.specs.declared.interval.Interval.{Interval}
use Rattle.intervals.specs.Intervals.{IsIn}
use Rattle.pram_meaning.specs.Store.{View}
use Rattle.all_inputs.specs.Overall.{Cover}
use Rattle.abstract_runs.specs.declared.outlook as outlook
use Rattle.abstract_runs.specs.declared.reach.Reach.{Reach}

-- there is an interval, and the value lies in it
abbrev pub IsAmong : Option Interval → ℤ → Type 0
IsAmong found z = IsSomeAnd found (λ i. IsIn z i)

-- a cell from the least to the greatest
pub record IsReached (c : ℕ) (r : Reach) : Type 0 where
  pub least : r.least ≤ c
  pub most : c ≤ r.most

-- what a processor sees lies in what is known of it
pub record Shows (o : outlook.Outlook.Outlook) (s : View) : Type 0 where
  pub layout : s.layout ≡ o.layout.now
  pub uniforms : Cover o.uniforms.now.items s.uniforms
  pub cells : Cover o.cells.now.items s.cells
  pub index : s.index ≡ o.index
  pub locals : Cover o.locals.now.items s.locals
