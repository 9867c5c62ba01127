-- The locals of processors that a statement of a set changes.
use Rattle.std.specs.Prelude.{ℕ, List, [], map, ℤ, pos, slice_index_or}
use Rattle.std.specs.List.{flat_map}
use Rattle.pram_names.specs.declared.body.StepTarget.TheVariants as target
use Rattle.pram_meaning.specs.Conflict.{Part}
use Rattle.pram_meaning.specs.Moments.{StepAction, AssignsOn, TurnsOn, ChoosesOn}
use Rattle.pram_meaning.specs.Store.{Member, member_of}
use Rattle.pram_meaning.specs.Together.{value_in}
use Rattle.journal.specs.declared.change.Change.{Change}
use Rattle.journal.specs.declared.local_change.LocalChange.{LocalChange}
use Rattle.journal.specs.Changes.{change_at}

-- the change of a local, as that of one processor
abbrev pub own : ℤ → Change → LocalChange
own i d = record { processor = i; change = d }

-- the local x of the member of this number
abbrev pub local_of : List Member → ℕ → ℕ → ℤ
local_of team v x = slice_index_or (member_of team v).locals x (pos 0)

-- the local x of a processor gets the value of its attempt: that, where it differs
abbrev pub set_by : ℕ → List Member → Part → List LocalChange
set_by x team y = map (own y.processor) (change_at x (local_of team y.member x) (value_in y.attempt))

-- what a statement with these parts changes of the locals, in the order of the set
abbrev pub locals_changed : StepAction → List Part → List Member → List LocalChange
locals_changed (AssignsOn (target.Local x) e) xs team = flat_map (set_by x team) xs
locals_changed (AssignsOn (target.Cell a) e) xs team = []
locals_changed (AssignsOn (target.Element a i) e) xs team = []
locals_changed (TurnsOn e) xs team = []
locals_changed (ChoosesOn e) xs team = []
