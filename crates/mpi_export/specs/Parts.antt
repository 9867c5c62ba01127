-- The operands of an instruction, as a program in C spells them.
use Rattle.std.specs.Prelude.{ℕ, List, [], ◌∷◌, ℤ, pos}
use Rattle.superstep_instructions.specs.declared.instr.Instr.{Instr}
use Rattle.superstep_instructions.specs.declared.instr.Instr.TheVariants.{Mark, Set, Copy, Negate, Calculate, Decide, Not, CopyUniform}
use Rattle.superstep_instructions.specs.declared.instr.Instr.TheVariants.{Index}
use Rattle.superstep_instructions.specs.declared.instr.Instr.TheVariants.{Enter, Leave, Mask, Flip, Unmask, Ask, Put, Send, Reply, Vote}
use Rattle.superstep_instructions.specs.declared.instr.Instr.TheVariants.{Print}
use Rattle.superstep_instructions.specs.declared.instr.Instr.TheVariants.{Jump, JumpIfZero, Halt}
use Rattle.superstep_instructions.specs.declared.instr.Side.{Side}
use Rattle.superstep_instructions.specs.declared.instr.Side.TheVariants.{Uniform, Private}
use Rattle.mpi_export.specs.declared.parts.Part.{Part}
use Rattle.mpi_export.specs.declared.parts.Part.TheVariants.{Number, OfAll, OfEach, Into}

-- a register that is read
abbrev pub read_of : Side → ℕ → Part
read_of Uniform r = OfAll r
read_of Private r = OfEach r

-- a register that gets a result
abbrev pub into_of : Side → ℕ → Part
into_of Uniform r = OfAll r
into_of Private r = Into r

-- the operands of an instruction, in the order of the listing
abbrev pub parts_of : Instr → List Part
parts_of (Mark line) = Number (pos line) ∷ []
parts_of (Set side d n) = into_of side d ∷ Number n ∷ []
parts_of (Copy side d s) = into_of side d ∷ read_of side s ∷ []
parts_of (Negate side d s p) = into_of side d ∷ read_of side s ∷ Number (pos p) ∷ []
parts_of (Calculate side o d a b p) = into_of side d ∷ read_of side a ∷ read_of side b ∷ Number (pos p) ∷ []
parts_of (Decide side o d a b) = into_of side d ∷ read_of side a ∷ read_of side b ∷ []
parts_of (Not side d s) = into_of side d ∷ read_of side s ∷ []
parts_of (CopyUniform d s) = Into d ∷ OfAll s ∷ []
parts_of (Index d) = Into d ∷ []
parts_of (Enter a b p) = OfAll a ∷ OfAll b ∷ Number (pos p) ∷ []
parts_of (Mask s) = OfEach s ∷ []
parts_of (Ask side d c s p) = into_of side d ∷ Number (pos c) ∷ read_of side s ∷ Number (pos p) ∷ []
parts_of (Put side c s v p) = Number (pos c) ∷ read_of side s ∷ read_of side v ∷ Number (pos p) ∷ []
parts_of (Vote d) = OfAll d ∷ []
parts_of (Print s) = OfAll s ∷ []
parts_of (Jump t) = Number (pos t) ∷ []
parts_of (JumpIfZero s t) = OfAll s ∷ Number (pos t) ∷ []
parts_of i = []
