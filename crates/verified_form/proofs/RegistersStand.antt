-- There are as many registers as the instructions name.
use Rattle.std.proofs.Common.{◌≡◌, ℕ, zero, suc, ◌+◌, ◌<◌, ◌≤◌, List, [], ◌∷◌, Bool, true, false, max, ◌&&◌, Some, sym, subst, refl, arith}
use Rattle.std.specs.Prelude.{slice_get}
use Rattle.std.proofs.lemmas.Bool.Decides.{nat_tests}
use Rattle.pram_model.proofs.Truths.{unsome}
use Rattle.superstep_instructions.specs.declared.instr.Side.{Side}
use Rattle.superstep_instructions.specs.declared.instr.Side.TheVariants.{Uniform, Private}
use Rattle.superstep_instructions.specs.declared.instr.Instr.{Instr}
use Rattle.superstep_instructions.specs.declared.instr.Instr.TheVariants.{Set, Copy, Negate, Calculate, Decide, Not, CopyUniform, Index}
use Rattle.superstep_instructions.specs.declared.instr.Instr.TheVariants.{Enter, Mask, Ask, Put, Vote, Print, JumpIfZero}
use Rattle.superstep_instructions.specs.Code.{SuperstepCode}
use Rattle.bsp_verify.specs.Judging.{registers_of, is_register, has_registers}
use Rattle.plain_form.specs.Registers.{named, behind_all, registers}
use Rattle.verified_form.proofs.Fitting.{HasRegisters}

-- what an instruction names is below what all of them name
named_below : (s : Side) (is : List Instr) (k : ℕ) (i : Instr) → slice_get is k ≡ Some i → behind_all (named s i) ≤ registers s is
named_below s [] k i h = cc
named_below s (x ∷ is) zero i h =
    subst (λ (j : Instr). behind_all (named s j) ≤ max (behind_all (named s x)) (registers s is)) (unsome x i h) (omega arith)
named_below s (x ∷ is) (suc k) i h =
    let l : behind_all (named s i) ≤ registers s is = named_below s is k i h in omega (arith, l)

both_true : (a b : Bool) → a ≡ true → b ≡ true → a && b ≡ true
both_true true b h k = k
both_true false b h k = cc

all_true : (a b c : Bool) → a ≡ true → b ≡ true → c ≡ true → a && b && c ≡ true
all_true a b c h k l = both_true (a && b) c (both_true a b h k) l

module _ (code : SuperstepCode) where
  -- these registers of a side are there
  abbrev AreBelow : Side → List ℕ → Type 0
  AreBelow s rs = behind_all rs ≤ registers_of code s

  is_below : (s : Side) (r n : ℕ) → r < n → n ≤ registers_of code s → is_register code s r ≡ true
  is_below s r n h l = let k : r < registers_of code s = omega (arith, h, l) in grind (arith, nat_tests)

  one_there : (s : Side) (r : ℕ) → AreBelow s (r ∷ []) → is_register code s r ≡ true
  one_there s r h = is_below s r (max (r + 1) 0) (omega arith) h

  two_there : (s : Side) (x y : ℕ) → AreBelow s (x ∷ y ∷ []) → is_register code s x && is_register code s y ≡ true
  two_there s x y h =
      both_true (is_register code s x) (is_register code s y) (is_below s x (max (x + 1) (max (y + 1) 0)) (omega arith) h)
      (is_below s y (max (x + 1) (max (y + 1) 0)) (omega arith) h)

  three_there : (s : Side) (x y z : ℕ) → AreBelow s (x ∷ y ∷ z ∷ []) →
      is_register code s x && is_register code s y && is_register code s z ≡ true
  three_there s x y z h =
      let n = max (x + 1) (max (y + 1) (max (z + 1) 0)) in
      all_true (is_register code s x) (is_register code s y) (is_register code s z) (is_below s x n (omega arith) h)
      (is_below s y n (omega arith) h) (is_below s z n (omega arith) h)

  there : (i : Instr) → AreBelow Uniform (named Uniform i) → AreBelow Private (named Private i) → has_registers code i ≡ true
  there (Set Uniform d n) u p = one_there Uniform d u
  there (Set Private d n) u p = one_there Private d p
  there (Copy Uniform d x) u p = two_there Uniform d x u
  there (Copy Private d x) u p = two_there Private d x p
  there (Negate Uniform d x q) u p = two_there Uniform d x u
  there (Negate Private d x q) u p = two_there Private d x p
  there (Calculate Uniform o d x y q) u p = three_there Uniform d x y u
  there (Calculate Private o d x y q) u p = three_there Private d x y p
  there (Decide Uniform o d x y) u p = three_there Uniform d x y u
  there (Decide Private o d x y) u p = three_there Private d x y p
  there (Not Uniform d x) u p = two_there Uniform d x u
  there (Not Private d x) u p = two_there Private d x p
  there (CopyUniform d x) u p =
      both_true (is_register code Private d) (is_register code Uniform x) (one_there Private d p) (one_there Uniform x u)
  there (Index d) u p = one_there Private d p
  there (Enter x y q) u p = two_there Uniform x y u
  there (Mask x) u p = one_there Private x p
  there (Ask Uniform d a x q) u p = two_there Uniform d x u
  there (Ask Private d a x q) u p = two_there Private d x p
  there (Put Uniform a x y q) u p = two_there Uniform x y u
  there (Put Private a x y q) u p = two_there Private x y p
  there (Vote d) u p = one_there Uniform d u
  there (Print x) u p = one_there Uniform x u
  there (JumpIfZero x t) u p = one_there Uniform x u
  there i u p = refl

-- so in code with as many registers as are named each instruction has its own
pub registers_stand : (code : SuperstepCode) → code.uniform_registers ≡ registers Uniform code.instructions →
    code.private_registers ≡ registers Private code.instructions → HasRegisters code
registers_stand code u p k i h =
    there code i (subst (λ n. behind_all (named Uniform i) ≤ n) (sym u) (named_below Uniform code.instructions k i h))
    (subst (λ n. behind_all (named Private i) ≤ n) (sym p) (named_below Private code.instructions k i h))
