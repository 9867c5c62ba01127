-- What is told of a program's runs on all inputs of a scope.
use Rattle.std.specs.Prelude.{◌≡◌, ◌≤◌, ◌⊎◌, ℕ, ℤ, List, [], ◌∷◌, length, take, drop, true, false, ◌||◌, Option, None, Some, IsSomeAnd, is_some}
use Rattle.std.specs.Prelude.{if◌then◌else◌}
use Rattle.std.specs.List.{AllByRecursion}
use Rattle.std.specs.Option.{option_map}
use Rattle.pram_model.specs.Layout.{SharedEntry, size}
use Rattle.pram_values.specs.declared.kind.Kind.{Kind}
use Rattle.write_rules.specs.Verdict.{Verdict, Ended, Faulted, GoesOn}
use Rattle.intervals.specs.declared.interval.Interval.{Interval}
use Rattle.intervals.specs.Intervals.{IsIn}
use Rattle.all_inputs.specs.declared.line_faults.LineFaults.{LineFaults}
use Rattle.all_inputs.specs.declared.overall.Overall.{Overall}
use Rattle.all_inputs.specs.declared.scope.Scope.{Scope}
use Rattle.all_inputs.specs.Faulting.{kinds_of, single}
use Rattle.all_inputs.specs.Told.{MayAt}

-- an input of as many values, each in the interval
pub record IsInScope (scope : Scope) (input : List ℤ) : Type 0 where
  pub values : length input ≡ scope.values
  pub each : AllByRecursion (λ z. IsIn z scope.of) input

-- one interval for each value, and each value in its own
abbrev pub Cover : List Interval → List ℤ → Type 0
Cover [] [] = Unit {0}
Cover (i ∷ is) (z ∷ zs) = IsIn z i × Cover is zs
Cover is zs = ⊥

-- one interval for each declaration, and the values of its cells in it
abbrev pub Hold : List SharedEntry → List Interval → List ℤ → Type 0
Hold [] [] memory = Unit {0}
Hold (e ∷ es) (i ∷ is) memory = AllByRecursion (λ z. IsIn z i) (take (size e.bounds) memory) × Hold es is (drop (size e.bounds) memory)
Hold es is memory = ⊥

-- the verdict is one of those told: a fault of that kind at that line, going on behind the bound, or a memory within the intervals
abbrev pub IsToldOf : List SharedEntry → Overall → Verdict → Type 0
IsToldOf layout overall (Ended output memory) =
    IsSomeAnd overall.end (λ e. Cover e.cells.items memory × Hold layout e.declared.items memory)
IsToldOf layout overall (Faulted fault output) = MayAt fault.kind fault.line overall.told
IsToldOf layout overall (GoesOn output) = overall.told.may_go_on ≡ true

-- a run of so many statements may end
abbrev pub MayEndBehind : Overall → ℕ → Type 0
MayEndBehind overall count = IsSomeAnd overall.end (λ e. (e.least ≤ count) × (count ≤ e.most))

-- the one fault of the one line that has any
abbrev pub single_fault : List LineFaults → Option (ℕ × Kind)
single_fault [] = None
single_fault (e ∷ []) = option_map (λ kind. (e.line, kind)) (single (kinds_of e.faults))
single_fault (e ∷ f ∷ entries) = None

-- the fault that every run has: no other is told, none may go on and none ends
abbrev pub only_fault : Overall → Option (ℕ × Kind)
only_fault overall = if overall.told.may_go_on || is_some overall.end then None else single_fault overall.told.lines.items

-- a scope of one input: it has no value, or one number for all
abbrev pub HasOneInput : Scope → Type 0
HasOneInput scope = (scope.values ≡ 0) ⊎ (scope.of.least ≡ scope.of.greatest)

-- for each value the interval of it alone
abbrev pub AreJust : List Interval → List ℤ → Type 0
AreJust [] [] = Unit {0}
AreJust (i ∷ is) (z ∷ zs) = (i.least ≡ z) × (i.greatest ≡ z) × AreJust is zs
AreJust is zs = ⊥

-- no fault is told
abbrev pub TellsNoFault : Overall → Type 0
TellsNoFault overall = overall.told.lines.items ≡ []

-- the verdict itself is told, and nothing beside it
abbrev pub IsJust : Overall → Verdict → Type 0
IsJust overall (Ended output memory) = TellsNoFault overall × (overall.told.may_go_on ≡ false)
    × IsSomeAnd overall.end (λ e. AreJust e.cells.items memory × (e.least ≡ e.most))
IsJust overall (Faulted fault output) = only_fault overall ≡ Some (fault.line, fault.kind)
IsJust overall (GoesOn output) = TellsNoFault overall × (overall.told.may_go_on ≡ true) × (overall.end ≡ None)

-- a fault of that kind at that line
abbrev pub IsFaultAt : ℕ → Kind → Verdict → Type 0
IsFaultAt line kind (Ended output memory) = ⊥
IsFaultAt line kind (Faulted fault output) = (fault.line ≡ line) × (fault.kind ≡ kind)
IsFaultAt line kind (GoesOn output) = ⊥
