-- Code whose registers have other numbers.
use Rattle.std.specs.Prelude.{◌≡◌, ℕ, map}
use Rattle.superstep_instructions.specs.declared.instr.Instr.{Instr}
use Rattle.superstep_instructions.specs.declared.instr.Instr.TheVariants.{Mark, Set, Copy, Negate, Calculate, Decide, Not, CopyUniform}
use Rattle.superstep_instructions.specs.declared.instr.Instr.TheVariants.{Index}
use Rattle.superstep_instructions.specs.declared.instr.Instr.TheVariants.{Enter, Leave, Mask, Flip, Unmask, Ask, Put, Send, Reply, Vote}
use Rattle.superstep_instructions.specs.declared.instr.Instr.TheVariants.{Print}
use Rattle.superstep_instructions.specs.declared.instr.Instr.TheVariants.{Jump, JumpIfZero, Halt}
use Rattle.superstep_instructions.specs.Code.{SuperstepCode}

-- one number for each, and each for one
pub record IsOneToOne (p l : ℕ → ℕ) : Type 0 where
  pub back : (r : ℕ) → l (p r) ≡ r
  pub forth : (r : ℕ) → p (l r) ≡ r

-- an instruction whose registers, of both sides, have the numbers that p gives them
abbrev pub renamed : (ℕ → ℕ) → Instr → Instr
renamed p (Mark line) = Mark line
renamed p (Set side d n) = Set side (p d) n
renamed p (Copy side d s) = Copy side (p d) (p s)
renamed p (Negate side d s q) = Negate side (p d) (p s) q
renamed p (Calculate side o d a b q) = Calculate side o (p d) (p a) (p b) q
renamed p (Decide side o d a b) = Decide side o (p d) (p a) (p b)
renamed p (Not side d s) = Not side (p d) (p s)
renamed p (CopyUniform d s) = CopyUniform (p d) (p s)
renamed p (Index d) = Index (p d)
renamed p (Enter a b q) = Enter (p a) (p b) q
renamed p Leave = Leave
renamed p (Mask s) = Mask (p s)
renamed p Flip = Flip
renamed p Unmask = Unmask
renamed p (Ask side d c s q) = Ask side (p d) c (p s) q
renamed p (Put side c s v q) = Put side c (p s) (p v) q
renamed p Send = Send
renamed p Reply = Reply
renamed p (Vote d) = Vote (p d)
renamed p (Print s) = Print (p s)
renamed p (Jump t) = Jump t
renamed p (JumpIfZero s t) = JumpIfZero (p s) t
renamed p Halt = Halt

-- the code of these instructions, with so many registers of each side
abbrev pub with_names : (ℕ → ℕ) → ℕ → ℕ → SuperstepCode → SuperstepCode
with_names p uniform private code = record code {
  uniform_registers = uniform;
  private_registers = private;
  instructions = map (renamed p) code.instructions;
}
