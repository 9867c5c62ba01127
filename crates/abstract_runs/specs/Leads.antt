-- Where a run comes to lies in what is told.
use Rattle.std.specs.Prelude.{◌≡◌, true}
use Rattle.pram_meaning.specs.Bounded.{Behaviour, Goes, Stops, Reaches}
use Rattle.pram_meaning.specs.Store.{State}
use Rattle.all_inputs.specs.declared.told.Told.{Told}
use Rattle.all_inputs.specs.Told.{MayAt}

-- a run goes on in such a state, stops by a fault that is told, or comes to the bound where that is told
abbrev pub Leads : {A : Type 0} → (A → State → Type 0) → Told → Behaviour A → Type 0
Leads Goal told (Goes a m) = Goal a m
Leads Goal told (Stops fault output) = MayAt fault.kind fault.line told
Leads Goal told (Reaches output) = told.may_go_on ≡ true
