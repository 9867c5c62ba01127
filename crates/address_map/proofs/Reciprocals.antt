-- To multiply by a reciprocal that is rounded up, and to leave out the low digits, is to divide.
use Rattle.std.proofs.Common.{◌≡◌, ℕ, ◌+◌, ◌-◌, ◌*◌, ◌/◌, ◌%◌, ◌^◌, ◌<◌, ◌≤◌, ap, ◌∙◌, arith}
use Rattle.std.proofs.lemmas.Nat.{div-add-mod', mod_below, mul-le}
use Rattle.std.proofs.Math.Nat.{div-eq_of_lt-le, le_of_mul-le-mul_right, lt_of_mul-lt-mul_right, le_refl, mul_assoc, mul-add}

-- what the reciprocal is too large by, m times, is m at most
excess : (w m : ℕ) → 0 < m → (w / m + 1) * m ≡ w + (m - w % m)
excess w m some = let e = div-add-mod' w m in let below = mod_below w m some in omega arith

scaled : (w n m : ℕ) → 0 < m → n * (w / m + 1) * m ≡ n * w + n * (m - w % m)
scaled w n m some = mul_assoc n (w / m + 1) m ∙ ap (λ x. n * x) (excess w m some) ∙ mul-add n w (m - w % m)

pub divided : (w n m : ℕ) → 0 < m → n * m < w → n * (w / m + 1) / w ≡ n / m
divided w n m some small =
    let is = div-add-mod' n m in
    let below = mod_below n m some in
    let product = scaled w n m some in
    let little : n * (m - w % m) ≤ n * m = mul-le n (m - w % m) n m (le_refl n) (omega arith) in
    let low : n / m * m * w ≤ n * w = mul-le (n / m * m) w n w (omega arith) (le_refl w) in
    let high : (n + 1) * w ≤ (n / m + 1) * m * w = mul-le (n + 1) w ((n / m + 1) * m) w (omega arith) (le_refl w) in
    let least : n / m * w * m ≤ n * (w / m + 1) * m = omega arith in
    let most : n * (w / m + 1) * m < (n / m + 1) * w * m = omega arith in
    div-eq_of_lt-le w (le_of_mul-le-mul_right least some) (lt_of_mul-lt-mul_right m most)

-- numbers of 20 bits by at most 32
pub divided_small : (n m : ℕ) → n < 2 ^ 20 → 1 ≤ m → m ≤ 32 → n * (2 ^ 32 / m + 1) / 2 ^ 32 ≡ n / m
divided_small n m below some few =
    let small : n * m ≤ 2 ^ 20 * 32 = mul-le n m (2 ^ 20) 32 (omega arith) few in
    divided (2 ^ 32) n m some (omega arith)
