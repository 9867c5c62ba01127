-- Room for the numbers of code: registers and declarations have 16 bits, positions 32.
use Rattle.std.specs.Prelude.{ℕ, ◌+◌, ◌<◌, ◌^◌}
use Rattle.pram_names.specs.declared.body.Target.{Target}
use Rattle.pram_names.specs.declared.body.Target.TheVariants as target
use Rattle.pram_names.specs.declared.body.StepTarget.{StepTarget}
use Rattle.pram_names.specs.declared.body.StepTarget.TheVariants as inner
use Rattle.plain_form.specs.Formulas.{Formula, Zero, Number, Variable, Index, Local, Read, Before, Between, Pair, reads, positions}
use Rattle.plain_form.specs.Formulas.{formula_of}
use Rattle.plain_form.specs.Groups.{stack}

-- at most so many registers of the stack
abbrev pub height : Formula → ℕ
height Zero = 0
height (Number n) = 1
height (Variable x) = 1
height Index = 0
height (Local x) = 0
height (Read a f) = height f
height (Before o f) = height f + 1
height (Between o f g) = height f + height g + 1
height (Pair f g) = height f + height g + 1

-- each variable, each local and each declaration that it names has a number in a listing
abbrev pub HasShortNames : Formula → Type 0
HasShortNames Zero = Unit {0}
HasShortNames (Number n) = Unit {0}
HasShortNames (Variable x) = x + 1 < 2 ^ 16
HasShortNames Index = Unit {0}
HasShortNames (Local x) = x + 2 < 2 ^ 16
HasShortNames (Read a f) = (a < 2 ^ 16) × HasShortNames f
HasShortNames (Before o f) = HasShortNames f
HasShortNames (Between o f g) = HasShortNames f × HasShortNames g
HasShortNames (Pair f g) = HasShortNames f × HasShortNames g

-- so have its reads from register t on, its stack from b on, and its positions behind q
pub record HasRoom (f : Formula) (t b q : ℕ) : Type 0 where
  pub names : HasShortNames f
  pub reads : t + reads f < 2 ^ 16
  pub stack : b + height f + 1 < 2 ^ 16
  pub positions : q + positions f + 1 < 2 ^ 32

-- of a statement whose registers begin at base
abbrev pub IsRoomFor : Formula → ℕ → Type 0
IsRoomFor f base = HasRoom f base (stack base f) 0

-- of an assignment outside pardo, and inside
abbrev pub IsAssignRoom : Target → Formula → ℕ → Type 0
IsAssignRoom (target.Uniform x) f base = (x + 1 < 2 ^ 16) × IsRoomFor f base
IsAssignRoom (target.Cell a) f base = (a < 2 ^ 16) × IsRoomFor (Pair Zero f) base
IsAssignRoom (target.Element a i) f base = (a < 2 ^ 16) × IsRoomFor (Pair (formula_of i) f) base

abbrev pub IsInnerAssignRoom : StepTarget → Formula → ℕ → Type 0
IsInnerAssignRoom (inner.Local x) f base = (x + 2 < 2 ^ 16) × IsRoomFor f base
IsInnerAssignRoom (inner.Cell a) f base = (a < 2 ^ 16) × IsRoomFor (Pair Zero f) base
IsInnerAssignRoom (inner.Element a i) f base = (a < 2 ^ 16) × IsRoomFor (Pair (formula_of i) f) base
