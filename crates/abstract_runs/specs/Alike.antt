-- Expressions that have one value for all processors of a statement.
use Rattle.std.specs.Prelude.{◌≡◌, List, ℤ}
use Rattle.std.specs.List.{AllByRecursion}
use Rattle.pram_names.specs.declared.body.Expression.{Expression}
use Rattle.pram_meaning.specs.Attempt.{Attempt, Gives, Fails, Trail, Effect, attempt}
use Rattle.pram_meaning.specs.Conflict.{Part}
use Rattle.pram_meaning.specs.Store.{View}

-- two see the same uniform variables and cells, whatever their indices and their locals
pub record SeeAlike (s r : View) : Type 0 where
  pub layout : s.layout ≡ r.layout
  pub uniforms : s.uniforms ≡ r.uniforms
  pub cells : s.cells ≡ r.cells

-- two that do make the same attempt at the expression
abbrev pub IsAlike : Expression → Type 0
IsAlike e = (s r : View) (t : Trail) → SeeAlike s r → attempt s e t ≡ attempt r e t

-- the attempt gives no other value
abbrev pub GivesOnly : ℤ → Attempt Effect → Type 0
GivesOnly x (Gives t g) = g.value ≡ x
GivesOnly x (Fails t kind) = Unit {0}

-- there is one value, which each part gives that doesn't fail
pub record AreAlike (xs : List Part) : Type 0 where
  pub value : ℤ
  pub given : AllByRecursion (λ (x : Part). GivesOnly value x.attempt) xs
