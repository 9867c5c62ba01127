-- What is told of all runs together, and what a run has of it.
use Rattle.std.specs.Prelude.{◌≡◌, ℕ, true}
use Rattle.std.specs.List.{Contains}
use Rattle.pram_values.specs.declared.kind.Kind.{Kind}
use Rattle.all_inputs.specs.declared.line_faults.LineFaults.{LineFaults}
use Rattle.all_inputs.specs.declared.told.Told.{Told}
use Rattle.all_inputs.specs.Faulting.{May}

-- a statement of that line may fault so
pub record MayAt (kind : Kind) (line : ℕ) (told : Told) : Type 0 where
  pub entry : LineFaults
  pub among : Contains told.lines.items entry
  pub line_is : entry.line ≡ line
  pub may : May kind entry.faults

-- whatever the first tells the second tells
pub record IsKept (told more : Told) : Type 0 where
  pub faults : (kind : Kind) (line : ℕ) → MayAt kind line told → MayAt kind line more
  pub goes_on : told.may_go_on ≡ true → more.may_go_on ≡ true
