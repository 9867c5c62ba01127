-- The first instruction of an operator, and those behind it.
use Rattle.std.specs.Prelude.{ℕ}
use Rattle.pram_tokens.specs.declared.token.Binary.{Binary}
use Rattle.pram_tokens.specs.declared.token.Binary.TheVariants.{Or, And, Equal, Unequal, Less, AtMost, Greater, AtLeast, Add, Subtract}
use Rattle.pram_tokens.specs.declared.token.Binary.TheVariants.{Multiply, Divide, Remainder}
use Rattle.superstep_instructions.specs.declared.instr.Side.{Side}
use Rattle.superstep_instructions.specs.declared.instr.Arithmetic.TheVariants as arithmetic
use Rattle.superstep_instructions.specs.declared.instr.Truth.TheVariants as truth
use Rattle.superstep_instructions.specs.declared.instr.Instr.{Instr}
use Rattle.superstep_instructions.specs.declared.instr.Instr.TheVariants.{Calculate, Decide}

abbrev pub first_between : Side → Binary → (b x y q : ℕ) → Instr
first_between s Or b x y q = Decide s truth.Or b x y
first_between s And b x y q = Decide s truth.And b x y
first_between s Equal b x y q = Decide s truth.Equal b x y
first_between s Unequal b x y q = Decide s truth.Equal b x y
first_between s Less b x y q = Decide s truth.Less b x y
first_between s AtMost b x y q = Decide s truth.AtMost b x y
first_between s Greater b x y q = Decide s truth.Less b y x
first_between s AtLeast b x y q = Decide s truth.AtMost b y x
first_between s Add b x y q = Calculate s arithmetic.Add b x y q
first_between s Subtract b x y q = Calculate s arithmetic.Subtract b x y q
first_between s Multiply b x y q = Calculate s arithmetic.Multiply b x y q
first_between s Divide b x y q = Calculate s arithmetic.Divide b x y q
first_between s Remainder b x y q = Calculate s arithmetic.Remainder b x y q
