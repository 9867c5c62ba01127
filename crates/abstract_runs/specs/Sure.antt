-- What attempts of a set surely do.
use Rattle.std.specs.Prelude.{◌≡◌, ◌≢◌, ◌⊎◌, ◌≤◌, ℕ, List, length, pos, ◌<ℤ◌, Some, None, true, false, slice_index_or}
use Rattle.pram_model.specs.declared.rule.Rule.{Rule}
use Rattle.pram_model.specs.declared.rule.Rule.TheVariants.{Erew, Crew, Common, Priority, Sum}
use Rattle.pram_values.specs.Value.{fits}
use Rattle.write_rules.specs.Rule.{sum_of}
use Rattle.intervals.specs.declared.interval.Interval.{Interval}
use Rattle.intervals.specs.Intervals.{IsIn}
use Rattle.std.specs.List.{Contains}
use Rattle.pram_meaning.specs.Conflict.{Part, keys, writes_by, writes_to}
use Rattle.pram_meaning.specs.declared.key.Key.{Key}
use Rattle.abstract_runs.specs.declared.findings.Findings.{Findings}
use Rattle.abstract_runs.specs.declared.effect.Effect.{Effect}
use Rattle.abstract_runs.specs.declared.reach.Reach.{Reach}
use Rattle.abstract_runs.specs.declared.row.Row.{Row}
use Rattle.abstract_runs.specs.Given.{AreGiven, IsGiving}
use Rattle.abstract_runs.specs.Rows.{ArePartsBy, IsPartBy}

-- it takes place, and unless it faults it writes to that cell, a value of the interval
pub record WritesSurely (c : ℕ) (i : Interval) (row : Row) : Type 0 where
  pub sure : row.is_sure ≡ true
  pub effect : Effect
  pub is : row.effect ≡ Some effect
  pub value : effect.value ≡ i
  pub reach : Reach
  pub goes : effect.reach ≡ Some reach
  pub least : reach.least ≡ c
  pub most : reach.most ≡ c

-- it takes place, and unless it faults it reads that cell at the position behind p others
pub record ReadsSurely (p c : ℕ) (row : Row) : Type 0 where
  pub sure : row.is_sure ≡ true
  pub reach : Reach
  pub is : slice_index_or row.trail.items p None ≡ Some reach
  pub least : reach.least ≡ c
  pub most : reach.most ≡ c

-- it takes place, and always faults, at this position or before it
pub record FaultsSurely (at : ℕ) (row : Row) : Type 0 where
  pub sure : row.is_sure ≡ true
  pub nothing : row.effect ≡ None
  pub last : length row.trail.items ≡ at

-- one of the faults is at that position or before it
pub record HasFaultBy (at : ℕ) (ks : List Key) : Type 0 where
  pub key : Key
  pub among : Contains ks key
  pub by : key.at ≤ at

-- whatever parts of this kind come to, one of their faults is
abbrev pub HaveFaultBy : Rule → List Row → ℕ → Type 0
HaveFaultBy rule rows at = (faults : Findings) (xs : List Part) → ArePartsBy faults rows xs → HasFaultBy at (keys rule xs)

-- two processors read one cell at one position
pub record Meeting (p : ℕ) (one two : Row) : Type 0 where
  pub cell : ℕ
  pub one_reads : ReadsSurely p cell one
  pub two_reads : ReadsSurely p cell two
  pub apart : one.processor ≢ two.processor

-- the rule is against two writers of one cell, whatever values of these they write
abbrev pub IsAgainst : Rule → Interval → Interval → Type 0
IsAgainst Erew i k = Unit {0}
IsAgainst Crew i k = Unit {0}
IsAgainst Common i k = (i.greatest <ℤ k.least) ⊎ (k.greatest <ℤ i.least)
IsAgainst Priority i k = ⊥
IsAgainst Sum i k = ⊥

-- both write to one cell, and the rule is against that
pub record Clash (rule : Rule) (one two : Row) : Type 0 where
  pub cell : ℕ
  pub first : Interval
  pub second : Interval
  pub one_writes : WritesSurely cell first one
  pub two_writes : WritesSurely cell second two
  pub against : IsAgainst rule first second

-- what a row's processor adds to a cell's sum unless it faults lies in these, and so does 0 where it may take no part
pub record AddsIn (c : ℕ) (added : Interval) (row : Row) : Type 0 where
  pub taken : (faults : Findings) (x : Part) → IsPartBy faults row x → IsGiving x.attempt →
      IsIn (sum_of (writes_by c x.processor x.attempt)) added
  pub passed : row.is_sure ≡ false → IsIn (pos 0) added

-- where no processor faults, the sum of what they write to the cell is no number of 64 bits
abbrev pub NeverFits : ℕ → List Row → Type 0
NeverFits c rows = (faults : Findings) (xs : List Part) → ArePartsBy faults rows xs → AreGiven xs → fits (sum_of (writes_to c xs)) ≡ false
