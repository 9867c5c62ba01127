-- Values at numbers of a list behind which all are 0.
use Rattle.std.proofs.Common.{◌≡◌, ◌<◌, ◌≤◌, ◌++◌, ◌∷◌, [], List, ℕ, zero, suc, ap, arith, length, refl, set}
use Rattle.std.specs.Prelude.{ℤ, pos}
use Rattle.journal.specs.Replay.{with_value}

-- a 0 behind them changes nothing
pub with_zero : (xs : List ℤ) (at : ℕ) (v : ℤ) → length xs ≤ at → with_value (xs ++ pos 0 ∷ []) at v ≡ with_value xs at v
with_zero [] zero v l = refl
with_zero [] (suc at) v l = refl
with_zero (x ∷ xs) zero v l = absurd (omega (arith, l))
with_zero (x ∷ xs) (suc at) v l = ap (λ ys. x ∷ ys) (with_zero xs at v (omega (arith, l)))

pub set_value : (xs : List ℤ) (at : ℕ) (v : ℤ) → at < length xs → set xs at v ≡ with_value xs at v
set_value [] at v l = absurd (omega (arith, l))
set_value (x ∷ xs) zero v l = refl
set_value (x ∷ xs) (suc at) v l = ap (λ ys. x ∷ ys) (set_value xs at v (omega (arith, l)))
