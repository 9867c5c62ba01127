-- Entries have room.
use Rattle.std.proofs.Common.{ℕ, zero, suc, ◌<◌, ◌≤◌, arith}
use Rattle.sweeps.specs.Equations.{bits}

-- each number below 6, and each below 7
pub below_6 : (P : ℕ → Type 0) → P 0 → P 1 → P 2 → P 3 → P 4 → P 5 → (k : ℕ) → k < 6 → P k
below_6 P a b c d e f zero less = a
below_6 P a b c d e f (suc zero) less = b
below_6 P a b c d e f (suc (suc zero)) less = c
below_6 P a b c d e f (suc (suc (suc zero))) less = d
below_6 P a b c d e f (suc (suc (suc (suc zero)))) less = e
below_6 P a b c d e f (suc (suc (suc (suc (suc zero))))) less = f
below_6 P a b c d e f (suc (suc (suc (suc (suc (suc k)))))) less = absurd (omega (arith, less))

pub below_7 : (P : ℕ → Type 0) → P 0 → P 1 → P 2 → P 3 → P 4 → P 5 → P 6 → (k : ℕ) → k < 7 → P k
below_7 P a b c d e f g zero less = a
below_7 P a b c d e f g (suc zero) less = b
below_7 P a b c d e f g (suc (suc zero)) less = c
below_7 P a b c d e f g (suc (suc (suc zero))) less = d
below_7 P a b c d e f g (suc (suc (suc (suc zero)))) less = e
below_7 P a b c d e f g (suc (suc (suc (suc (suc zero))))) less = f
below_7 P a b c d e f g (suc (suc (suc (suc (suc (suc zero)))))) less = g
below_7 P a b c d e f g (suc (suc (suc (suc (suc (suc (suc k))))))) less = absurd (omega (arith, less))

abbrev IsSmall : ℕ → Type 0
IsSmall k = (i : ℕ) → i < 7 → bits k i ≤ 842

pub bits_small : (k : ℕ) → k < 6 → IsSmall k
bits_small =
    below_6 IsSmall
    (below_7 (λ i. bits 0 i ≤ 842) (omega arith) (omega arith) (omega arith) (omega arith) (omega arith) (omega arith) (omega arith))
    (below_7 (λ i. bits 1 i ≤ 842) (omega arith) (omega arith) (omega arith) (omega arith) (omega arith) (omega arith) (omega arith))
    (below_7 (λ i. bits 2 i ≤ 842) (omega arith) (omega arith) (omega arith) (omega arith) (omega arith) (omega arith) (omega arith))
    (below_7 (λ i. bits 3 i ≤ 842) (omega arith) (omega arith) (omega arith) (omega arith) (omega arith) (omega arith) (omega arith))
    (below_7 (λ i. bits 4 i ≤ 842) (omega arith) (omega arith) (omega arith) (omega arith) (omega arith) (omega arith) (omega arith))
    (below_7 (λ i. bits 5 i ≤ 842) (omega arith) (omega arith) (omega arith) (omega arith) (omega arith) (omega arith) (omega arith))
