-- What the parts of the checker promise: the first thing that is wrong, or what the part says.
use Rattle.std.specs.Prelude.{◌≡◌, ℕ, ◌+◌, List, None, Result, Ok, Err}
use Rattle.pram_names.specs.declared.fault.Breach.{Breach}
use Rattle.pram_names.specs.declared.fault.CheckFault.{CheckFault}
use Rattle.pram_names.specs.Scope.{Scope}
use Rattle.pram_names.specs.Breaches.{Use, Tells, first, use_breaches, read_count}

-- nothing is wrong and the answer is as it must be, or the answer is the first thing that is wrong
abbrev pub Judges : {A : Type 0} → (A → Type 0) → List Breach → Result A CheckFault → Type 0
Judges Is bs (Ok a) = (first bs ≡ None) × Is a
Judges Is bs (Err x) = Tells bs x

-- the same of names in an expression, which end with m shared reads
abbrev pub JudgesUses : {A : Type 0} → (A → Type 0) → Scope → ℕ → List Use → Result A CheckFault → ℕ → Type 0
JudgesUses Is scope n us result m = Judges (λ a. Is a × (m ≡ n + read_count scope us)) (use_breaches scope n us) result
