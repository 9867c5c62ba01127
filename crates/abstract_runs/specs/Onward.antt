-- What is so of a run that goes on.
use Rattle.pram_meaning.specs.Bounded.{Behaviour, Goes, Stops, Reaches}
use Rattle.pram_meaning.specs.Store.{State}

-- where it goes on it does so
abbrev pub Onward : {A : Type 0} → (A → State → Type 0) → Behaviour A → Type 0
Onward P (Goes a m) = P a m
Onward P (Stops fault output) = Unit {0}
Onward P (Reaches output) = Unit {0}
