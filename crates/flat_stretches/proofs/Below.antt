-- A register below those that are set stays.
use Rattle.std.proofs.Common.{◌≡◌, ℕ, ◌<◌, ◌≤◌, cond, ℤ, ap, arith}
use Rattle.std.proofs.lemmas.Bool.{ne_eqb}
use Rattle.superstep_machine.specs.Parts.{Registers, set_register}

pub set_below : (base d : ℕ) (z : ℤ) (registers : Registers) (r : ℕ) → base ≤ d → r < base → set_register d z registers r ≡ registers r
set_below base d z registers r l h = ap (λ b. cond b z (registers r)) (ne_eqb d r (λ e. omega (arith, l, h, e)))
