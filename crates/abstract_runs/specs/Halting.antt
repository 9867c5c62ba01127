-- Where a run for all inputs may come to no end.
use Rattle.std.specs.Prelude.{◌≡◌, ℕ, List, Vec, ℤ}
use Rattle.std.specs.Global.{Global}
use Rattle.std.specs.List.{Contains}
use Rattle.pram_tokens.specs.declared.token.Location.{Location}
use Rattle.pram_names.specs.declared.body.Expression.{Expression, Number}
use Rattle.pram_names.specs.declared.body.Statement as statement
use Rattle.pram_names.specs.declared.body.Statement.{Statement}
use Rattle.pram_names.specs.declared.body.Step as step
use Rattle.pram_names.specs.declared.body.Step.{Step}
use Rattle.all_inputs.specs.declared.undecided.Undecided.{Undecided}
use Rattle.all_inputs.specs.declared.undecided.Undecided.TheVariants.{OpenBounds, Restless}
use Rattle.abstract_runs.specs.declared.halt as halt
use Rattle.abstract_runs.specs.declared.halt.Halt.TheVariants as variant

-- memory was refused, or that is so of what is undecided
abbrev pub Halts : (Undecided → Type 0) → halt.Halt.Halt → Type 0
Halts P variant.OutOfMemory = Unit {0}
Halts P (variant.Undecided u) = P u

-- ---- inside pardo

-- a statement that is so stands in it
pub data HasStep (P : Step → Type 0) : Step → Type 0 where
  itself : {s : Step} → P s → HasStep P s
  in_while : (here : Location) (e : Expression) (body : Vec Step Global) (s : Step) → Contains body.items s → HasStep P s →
      HasStep P (step.While here e body)
  in_then : (here : Location) (e : Expression) (a b : Vec Step Global) (s : Step) → Contains a.items s → HasStep P s →
      HasStep P (step.If here e a b)
  in_else : (here : Location) (e : Expression) (a b : Vec Step Global) (s : Step) → Contains b.items s → HasStep P s →
      HasStep P (step.If here e a b)

-- it stands in one of them
pub record HaveStep (P : Step → Type 0) (ss : List Step) : Type 0 where
  pub one : Step
  pub among : Contains ss one
  pub has : HasStep P one

-- a loop, at the line where it is found to come to no rest
pub data IsOpenOn : Undecided → Step → Type 0 where
  loop : (here : Location) (e : Expression) (body : Vec Step Global) → IsOpenOn (Restless here.line) (step.While here e body)

-- ---- outside pardo

-- a number as it is written
abbrev pub IsNumber : Expression → Type 0
IsNumber e = (n : ℤ) × (e ≡ Number n)

-- one of the bounds is no such number
abbrev pub AreOpen : Expression → Expression → Type 0
AreOpen low high = IsNumber low → IsNumber high → ⊥

-- a statement that is so stands in it
pub data HasStatement (P : Statement → Type 0) : Statement → Type 0 where
  itself : {s : Statement} → P s → HasStatement P s
  in_while : (here : Location) (e : Expression) (body : Vec Statement Global) (s : Statement) → Contains body.items s → HasStatement P s →
      HasStatement P (statement.While here e body)
  in_then : (here : Location) (e : Expression) (a b : Vec Statement Global) (s : Statement) → Contains a.items s → HasStatement P s →
      HasStatement P (statement.If here e a b)
  in_else : (here : Location) (e : Expression) (a b : Vec Statement Global) (s : Statement) → Contains b.items s → HasStatement P s →
      HasStatement P (statement.If here e a b)
  in_for : (here : Location) (x : ℕ) (low high : Expression) (body : Vec Statement Global) (s : Statement) → Contains body.items s →
      HasStatement P s → HasStatement P (statement.For here x low high body)

-- it stands in one of them
pub record HaveStatement (P : Statement → Type 0) (ss : List Statement) : Type 0 where
  pub one : Statement
  pub among : Contains ss one
  pub has : HasStatement P one

-- a loop that may come to no rest, or a `for` or a pardo whose bounds aren't both written as numbers, at its line
pub data IsOpenAt : Undecided → Statement → Type 0 where
  loop : (here : Location) (e : Expression) (body : Vec Statement Global) → IsOpenAt (Restless here.line) (statement.While here e body)
  counted : (here : Location) (x : ℕ) (low high : Expression) (body : Vec Statement Global) → AreOpen low high →
      IsOpenAt (OpenBounds here.line) (statement.For here x low high body)
  parallel : (here : Location) (low high : Expression) (locals : ℕ) (body : Vec Step Global) → AreOpen low high →
      IsOpenAt (OpenBounds here.line) (statement.Pardo here low high locals body)
  within : (u : Undecided) (here : Location) (low high : Expression) (locals : ℕ) (body : Vec Step Global) →
      HaveStep (IsOpenOn u) body.items → IsOpenAt u (statement.Pardo here low high locals body)
