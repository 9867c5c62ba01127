-- Lines and their faults, in ascending order of lines.
use Rattle.std.specs.Prelude.{◌≡◌, ℕ, ◌<◌, ◌≤◌, List, [], ◌∷◌, length, true, Option, None, nat_eq, slice_index_or, if◌then◌else◌}
use Rattle.std.specs.List.{All, AllPairs, AllWithin, Contains}
use Rattle.pram_values.specs.declared.kind.Kind.{Kind}
use Rattle.all_inputs.specs.declared.line_faults.LineFaults.{LineFaults}
use Rattle.all_inputs.specs.declared.reason.Reason.{Reason}
use Rattle.all_inputs.specs.Faulting.{AreKept, has_fault, reason_for}

-- each line is less than all behind it
abbrev pub AreAscending : List LineFaults → Type 0
AreAscending entries = AllPairs (λ e f. e.line < f.line) entries

-- each has a fault
abbrev pub HaveFaults : List LineFaults → Type 0
HaveFaults entries = All (λ e. has_fault e.faults ≡ true) entries

-- why a fault of that kind may come at that line, by the first that has the line
abbrev pub reason_at : ℕ → Kind → List LineFaults → Option Reason
reason_at line kind [] = None
reason_at line kind (e ∷ es) = if nat_eq e.line line then reason_for kind e.faults else reason_at line kind es

-- lesser lines stand before the place, and none at it
pub record IsPlaceOf (entries : List LineFaults) (line at : ℕ) : Type 0 where
  pub within : at ≤ length entries
  pub before : AllWithin (λ e. e.line < line) entries 0 at
  pub here : (d : LineFaults) → at < length entries → line ≤ (slice_index_or entries at d).line

-- the line stands there
pub record HasLineAt (entries : List LineFaults) (line at : ℕ) : Type 0 where
  pub within : at < length entries
  pub is : (d : LineFaults) → (slice_index_or entries at d).line ≡ line

-- it stands nowhere, and there is its place
pub record IsGapFor (entries : List LineFaults) (line at : ℕ) : Type 0 where
  pub place : IsPlaceOf entries line at
  pub greater : (d : LineFaults) → at < length entries → line < (slice_index_or entries at d).line

-- the faults of an entry are among those of its line
pub record IsHeld (entries : List LineFaults) (e : LineFaults) : Type 0 where
  pub entry : LineFaults
  pub among : Contains entries entry
  pub line_is : entry.line ≡ e.line
  pub faults : AreKept e.faults entry.faults
