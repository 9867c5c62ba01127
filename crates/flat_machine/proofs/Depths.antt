-- All processors are under as many masks.
use Rattle.std.proofs.Common.{◌≡◌, ℕ, ◌+◌, ◌-◌, length, Bool, true, false, if◌then◌else◌, refl, sym, ap, ◌∙◌, arith}
use Rattle.superstep_instructions.specs.declared.instr.Side.TheVariants.{Uniform, Private}
use Rattle.superstep_instructions.specs.declared.instr.Instr.{Instr}
use Rattle.superstep_instructions.specs.declared.instr.Instr.TheVariants.{Mask, Flip, Unmask, Ask}
use Rattle.superstep_instructions.specs.Code.{SuperstepCode}
use Rattle.superstep_machine.specs.Parts.{UniformPart, PrivatePart, fresh}
use Rattle.superstep_machine.specs.Steps.{is_active, on_active, on_own, renews}
use Rattle.bsp_verify.proofs.WorkerLemmas.{length-flipped, length-unmasked}
use Rattle.flat_machine.specs.Flat.{Flat, after_instr}

-- how many masks an instruction leaves
abbrev deeper : Instr → ℕ → ℕ
deeper (Mask s) n = n + 1
deeper Unmask n = n - 1
deeper i n = n

either : (b : Bool) (x y : PrivatePart) (n : ℕ) → length x.masks ≡ n → length y.masks ≡ n → length (if b then x else y).masks ≡ n
either true x y n p q = p
either false x y n p q = q

depth_after : (code : SuperstepCode) (i : Instr) (u : UniformPart) (v : ℕ) (x : PrivatePart) →
    length (on_own code i u v x).masks ≡ deeper i (length x.masks)
depth_after code (Mask s) u v x = omega arith
depth_after code Flip u v x = length-flipped x.masks
depth_after code Unmask u v x = length-unmasked x.masks
depth_after code (Ask Uniform d c s q) u v x = refl
depth_after code (Ask Private d c s q) u v x = either (is_active x) _ _ (length x.masks) refl refl
depth_after code i u v x = either (is_active x) (on_active code i u v x) x (length x.masks) refl refl

pub level_after : (code : SuperstepCode) (i : Instr) (f : Flat) → ((u v : ℕ) → length (f.own u).masks ≡ length (f.own v).masks) →
    (u v : ℕ) → length ((after_instr code i f).own u).masks ≡ length ((after_instr code i f).own v).masks
level_after code i f h u v = go (renews i)
  where
    go : (b : Bool) → length (if b then fresh else on_own code i f.uniform u (f.own u)).masks ≡ length
        (if b then fresh else on_own code i f.uniform v (f.own v)).masks
    go true = refl
    go false = depth_after code i f.uniform u (f.own u) ∙ ap (deeper i) (h u v) ∙ sym (depth_after code i f.uniform v (f.own v))
