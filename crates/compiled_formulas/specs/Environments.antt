-- What a processor's registers show of what it sees, on both sides: outside pardo the uniform registers do, inside its own.
use Rattle.std.specs.Prelude.{◌≡◌, ℕ, ◌<◌, ◌≤◌, None, Some, ℤ, pos, slice_index_or}
use Rattle.superstep_instructions.specs.declared.instr.Side.{Side}
use Rattle.superstep_instructions.specs.declared.instr.Side.TheVariants.{Uniform, Private}
use Rattle.superstep_machine.specs.Parts.{Registers}
use Rattle.pram_check.specs.Bounded.{Names, IsInside, IsLocal}
use Rattle.pram_names.specs.declared.body.Expression.{Expression}
use Rattle.pram_check.specs.Bounded as bounded
use Rattle.pram_meaning.specs.Store.{View}
use Rattle.plain_form.specs.Registers.{zero_register, variable, behind_variables, index, local, behind_locals}
use Rattle.plain_form.specs.Formulas.{Formula, Zero, Number, Variable, Index, Local, Read, Before, Between, Pair, formula_of}

-- ---- names

-- each name of a formula can be named
abbrev pub IsNamed : Names → Formula → Type 0
IsNamed n Zero = Unit {0}
IsNamed n (Number z) = Unit {0}
IsNamed n (Variable x) = x < n.uniforms
IsNamed n Index = IsInside n
IsNamed n (Local x) = IsLocal n x
IsNamed n (Read a f) = IsNamed n f
IsNamed n (Before o f) = IsNamed n f
IsNamed n (Between o f g) = IsNamed n f × IsNamed n g
IsNamed n (Pair f g) = IsNamed n f × IsNamed n g

-- a checked expression names what can be named
abbrev pub ExpressionsAreNamed : Type 0
ExpressionsAreNamed = (n : Names) (e : Expression) → bounded.IsNamed n e → IsNamed n (formula_of e)

-- The registers from `base` on are free: outside pardo they are behind the uniform variables, inside behind the index and the locals.
abbrev pub IsFree : Side → Names → ℕ → Type 0
IsFree Uniform n base = (n.locals ≡ None) × (behind_variables n.uniforms ≤ base)
IsFree Private n base = (locals : ℕ) × (n.locals ≡ Some locals) × (behind_locals locals ≤ base)

-- ---- registers

-- where uniform variables are read: on both sides among the uniform registers
abbrev pub uniform_ones : Side → Registers → Registers → Registers
uniform_ones Uniform uniforms own = own
uniform_ones Private uniforms own = uniforms

-- Registers and memory show what a processor sees: register 0 is 0, and each variable, the index, each local and each cell is where
-- it belongs. `own` are the registers of that side.
pub record Shows (side : Side) (n : Names) (s : View) (uniforms own : Registers) (memory : ℕ → ℤ) : Type 0 where
  pub nothing : own zero_register ≡ pos 0
  pub variables : (x : ℕ) → x < n.uniforms → uniform_ones side uniforms own (variable x) ≡ slice_index_or s.uniforms x (pos 0)
  pub indices : IsInside n → own index ≡ s.index
  pub locals : (x : ℕ) → IsLocal n x → own (local x) ≡ slice_index_or s.locals x (pos 0)
  pub cells : (c : ℕ) → memory c ≡ slice_index_or s.cells c (pos 0)
