-- Sums and differences that are steps.
use Rattle.std.proofs.Common.{◌≡◌, ℤ, pos, ◌+ℤ◌, ◌-ℤ◌, Ok, arith}
use Rattle.std.proofs.lemmas.Int.{ints}
use Rattle.pram_tokens.specs.declared.token.Binary.TheVariants.{Add, Subtract}
use Rattle.pram_meaning.specs.Operation.{operate}
use Rattle.abstract_runs.specs.Near.{IsNear}
use Rattle.abstract_runs.proofs.Splitting.{checked_as}

-- a variable of value w, and a small number behind it
pub sum_steps : (y r z w : ℤ) → (y ≡ w) × IsNear 1 (pos 0) r → operate Add y r ≡ Ok z → IsNear 1 w z
sum_steps y r z w h g =
    let sum : y +ℤ r ≡ z = checked_as (y +ℤ r) z g in let same = h.0 in let low = h.1.least in let high = h.1.most in
    record { least = omega (arith, ints); most = omega (arith, ints) }

-- or before it
pub sum_steps_behind : (r y z w : ℤ) → (y ≡ w) × IsNear 1 (pos 0) r → operate Add r y ≡ Ok z → IsNear 1 w z
sum_steps_behind r y z w h g =
    let sum : r +ℤ y ≡ z = checked_as (r +ℤ y) z g in let same = h.0 in let low = h.1.least in let high = h.1.most in
    record { least = omega (arith, ints); most = omega (arith, ints) }

pub difference_steps : (y r z w : ℤ) → (y ≡ w) × IsNear 1 (pos 0) r → operate Subtract y r ≡ Ok z → IsNear 1 w z
difference_steps y r z w h g =
    let rest : y -ℤ r ≡ z = checked_as (y -ℤ r) z g in let same = h.0 in let low = h.1.least in let high = h.1.most in
    record { least = omega (arith, ints); most = omega (arith, ints) }
