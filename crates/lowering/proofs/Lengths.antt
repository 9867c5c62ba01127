-- How long code is.
use Rattle.std.proofs.Common.{◌≡◌, ℕ, ◌+◌, ◌≤◌, Bool, List, [], ◌∷◌, length, ◌∙◌, sym, length-append, arith}
use Rattle.superstep_instructions.specs.declared.instr.Instr.{Instr}
use Rattle.superstep_instructions.specs.declared.instr.Instr.TheVariants.{Jump, JumpIfZero}
use Rattle.pram_names.specs.declared.body.Statement.{Statement}
use Rattle.lowering.specs.Blocks.{part, joined}
use Rattle.straight_lowering.specs.Written.{Written, wrote, patched}
use Rattle.lowering.proofs.Filling.{length_of, length_of_patched}

-- the same code is as long
pub as_long : (is js : List Instr) (h k : Bool) (w : Written) → wrote is h w ≡ wrote js k w →
    length w.instructions + length is ≡ length w.instructions + length js
as_long is js h k w e = sym (length-append w.instructions is) ∙ length_of js k w (wrote is h w) e

-- what is there before an else part is no more
pub before_else : (over source free : ℕ) (items : List Statement) (w : Written) →
    length w.instructions ≤ length (joined over source free items w).instructions
before_else over source free [] w =
    let p = length_of_patched over (JumpIfZero source (length w.instructions)) w in omega (arith, p)
before_else over source free (s ∷ ss) w =
    let jump = JumpIfZero source (length w.instructions + 1) in
    let p = length_of_patched over jump w in
    let a = length-append (patched over jump w).instructions
    (Jump (length w.instructions + 1 + length (part free w.held (s ∷ ss) (length w.instructions + 1))) ∷ part free w.held (s ∷ ss)
    (length w.instructions + 1)) in
    omega (arith, p, a)
