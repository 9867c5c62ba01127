-- What a stretch leaves as it was: all that the program has, but for its registers from a number on.
use Rattle.std.specs.Prelude.{◌≡◌, ℕ, ◌<◌, ◌≤◌, List, Bool, true, false, Option, Some, None, nat_le}
use Rattle.std.specs.List.{AllByRecursion}
use Rattle.superstep_instructions.specs.declared.instr.Side.TheVariants.{Uniform}
use Rattle.superstep_instructions.specs.declared.instr.Instr.{Instr}
use Rattle.superstep_instructions.specs.declared.instr.Instr.TheVariants.{Mark, Set, Copy, Negate, Calculate, Decide, Not, Enter, Leave}
use Rattle.superstep_instructions.specs.declared.instr.Instr.TheVariants.{Ask, Put}
use Rattle.superstep_instructions.specs.declared.instr.Instr.TheVariants.{Print, Vote}
use Rattle.superstep_instructions.specs.Code.{SuperstepCode}
use Rattle.superstep_machine.specs.Parts.{Read}
use Rattle.flat_machine.specs.Flat.{Flat}
use Rattle.flat_stretches.specs.Applied.{IsBare}
use Rattle.flat_stretches.specs.Folds.{acts_at_once}

-- the statement, the range, the output, the memory, and the uniform registers below `base` are the same
pub record IsLeft (base : ℕ) (f g : Flat) : Type 0 where
  pub count : g.uniform.count ≡ f.uniform.count
  pub line : g.uniform.line ≡ f.uniform.line
  pub low : g.uniform.low ≡ f.uniform.low
  pub width : g.uniform.width ≡ f.uniform.width
  pub output : g.uniform.output ≡ f.uniform.output
  pub registers : (r : ℕ) → r < base → g.uniform.registers r ≡ f.uniform.registers r
  pub memory : (c : ℕ) → g.memory c ≡ f.memory c

-- an instruction sets no uniform register below `base`; it begins no statement and no range, ends none, writes and prints nothing
abbrev pub evaluates : ℕ → Instr → Bool
evaluates base (Set Uniform d x) = nat_le base d
evaluates base (Copy Uniform d s) = nat_le base d
evaluates base (Negate Uniform d s q) = nat_le base d
evaluates base (Calculate Uniform o d a b q) = nat_le base d
evaluates base (Decide Uniform o d a b) = nat_le base d
evaluates base (Not Uniform d s) = nat_le base d
evaluates base (Ask Uniform d c s q) = nat_le base d
evaluates base (Vote d) = nat_le base d
evaluates base (Mark line) = false
evaluates base (Enter a b q) = false
evaluates base Leave = false
evaluates base (Put side c s v q) = false
evaluates base (Print s) = false
evaluates base i = true

-- a read of the program, which has a cell, is for a register from `base` on
abbrev pub IsReadAbove : ℕ → ℕ → Option ℕ → Type 0
IsReadAbove base d None = Unit {0}
IsReadAbove base d (Some c) = base ≤ d

-- so are those that are held and awaited
pub record ReadsAbove (base : ℕ) (f : Flat) : Type 0 where
  pub asks : AllByRecursion (λ (x : Read). IsReadAbove base x.destination x.cell) f.uniform.asks
  pub awaited : AllByRecursion (λ (x : Read). IsReadAbove base x.destination x.cell) f.uniform.awaited

-- where no write is held a stretch of such instructions leaves the rest, its reads, sends and replies included
abbrev pub FoldsLeave : Type 0
FoldsLeave = (code : SuperstepCode) (base : ℕ) (is : List Instr) (f : Flat) → AllByRecursion (λ (i : Instr). evaluates base i ≡ true) is →
    IsBare f → ReadsAbove base f → IsLeft base f (acts_at_once code is f)
