-- The registers that instructions name.
use Rattle.std.specs.Prelude.{◌≡◌, ℕ, List, [], ◌∷◌, Option, Some, None, slice_get}
use Rattle.superstep_instructions.specs.declared.instr.Side.{Side}
use Rattle.superstep_instructions.specs.declared.instr.Side.TheVariants.{Uniform, Private}
use Rattle.superstep_instructions.specs.declared.instr.Instr.{Instr}
use Rattle.superstep_instructions.specs.declared.instr.Instr.TheVariants.{Mark, Set, Copy, Negate, Calculate, Decide, Not, CopyUniform}
use Rattle.superstep_instructions.specs.declared.instr.Instr.TheVariants.{Index}
use Rattle.superstep_instructions.specs.declared.instr.Instr.TheVariants.{Enter, Leave, Mask, Flip, Unmask, Ask, Put, Send, Reply, Vote}
use Rattle.superstep_instructions.specs.declared.instr.Instr.TheVariants.{Print}
use Rattle.superstep_instructions.specs.declared.instr.Instr.TheVariants.{Jump, JumpIfZero, Halt}

-- a register of this side, where one of that is asked for
abbrev pub of : (asked side : Side) → ℕ → Option ℕ
of Uniform Uniform r = Some r
of Uniform Private r = None
of Private Uniform r = None
of Private Private r = Some r

-- the registers of a side that an instruction names, at most three
abbrev pub named : Side → Instr → List (Option ℕ)
named x (Mark line) = None ∷ None ∷ None ∷ []
named x (Set side d n) = of x side d ∷ None ∷ None ∷ []
named x (Copy side d s) = of x side d ∷ of x side s ∷ None ∷ []
named x (Negate side d s q) = of x side d ∷ of x side s ∷ None ∷ []
named x (Calculate side o d a b q) = of x side d ∷ of x side a ∷ of x side b ∷ []
named x (Decide side o d a b) = of x side d ∷ of x side a ∷ of x side b ∷ []
named x (Not side d s) = of x side d ∷ of x side s ∷ None ∷ []
named x (CopyUniform d s) = of x Private d ∷ of x Uniform s ∷ None ∷ []
named x (Index d) = of x Private d ∷ None ∷ None ∷ []
named x (Enter a b q) = of x Uniform a ∷ of x Uniform b ∷ None ∷ []
named x Leave = None ∷ None ∷ None ∷ []
named x (Mask s) = of x Private s ∷ None ∷ None ∷ []
named x Flip = None ∷ None ∷ None ∷ []
named x Unmask = None ∷ None ∷ None ∷ []
named x (Ask side d c s q) = of x side d ∷ of x side s ∷ None ∷ []
named x (Put side c s v q) = of x side s ∷ of x side v ∷ None ∷ []
named x Send = None ∷ None ∷ None ∷ []
named x Reply = None ∷ None ∷ None ∷ []
named x (Vote d) = of x Uniform d ∷ None ∷ None ∷ []
named x (Print s) = of x Uniform s ∷ None ∷ None ∷ []
named x (Jump t) = None ∷ None ∷ None ∷ []
named x (JumpIfZero s t) = of x Uniform s ∷ None ∷ None ∷ []
named x Halt = None ∷ None ∷ None ∷ []

-- a register is among them
abbrev pub IsAmong : ℕ → List (Option ℕ) → Type 0
IsAmong r names = (k : ℕ) × (slice_get names k ≡ Some (Some r))

-- one of these instructions names it
pub record IsNamedIn (side : Side) (instructions : List Instr) (r : ℕ) : Type 0 where
  pub place : ℕ
  pub instr : Instr
  pub is : slice_get instructions place ≡ Some instr
  pub among : IsAmong r (named side instr)
