-- A reciprocal of 64 bits, and what it is for.
use Rattle.std.proofs.Common.{◌≡◌, ◌⊎◌, ℕ, ◌+◌, ◌-◌, ◌*◌, ◌/◌, ◌%◌, ◌^◌, ◌<◌, ◌≤◌, ap, sym, ◌∙◌, arith, ⊎_elim}
use Rattle.std.proofs.lemmas.Nat.{div_below, mod-mul-add, mul-le, pow-add, pow_pos, shr-shr}
use Rattle.std.proofs.Math.Nat.{le_refl}
use Rattle.address_map.proofs.Reciprocals.{divided}

-- a number of 63 bits, times the divisor, is below the power
below_power : (n d s : ℕ) → n < 2 ^ 63 → d ≤ 2 ^ (s + 1) → n * d < 2 ^ (64 + s)
below_power n d s small reached =
    let most : n * d ≤ (2 ^ 63 - 1) * 2 ^ (s + 1) = mul-le n d (2 ^ 63 - 1) (2 ^ (s + 1)) (omega arith) reached in
    let twice : 2 ^ (s + 1) ≡ 2 ^ s * 2 = pow-add 2 s 1 in
    let power : 2 ^ (64 + s) ≡ 2 ^ 64 * 2 ^ s = pow-add 2 64 s in
    let some = pow_pos s in
    omega (arith, most, twice, power, some)

-- to multiply by the factor, and to leave out the low bits, is to divide
pub by_factor : (n d f s : ℕ) → n < 2 ^ 63 → 2 ≤ d → d ≤ 2 ^ (s + 1) → f ≡ 2 ^ (64 + s) / d + 1 → n * f / 2 ^ 64 / 2 ^ s ≡ n / d
by_factor n d f s small least reached is =
    shr-shr (n * f) 64 s ∙ ap (λ x. n * x / 2 ^ (64 + s)) is
    ∙ divided (2 ^ (64 + s)) n d (omega (arith, least)) (below_power n d s small reached)

-- the factor has 64 bits
pub factor_fits : (d s : ℕ) → 2 ≤ d → s ≤ 62 → (s ≡ 0) ⊎ (2 ^ s < d) → 2 ^ (64 + s) / d + 1 < 2 ^ 64
factor_fits d s least few close = let h = div_below (2 ^ (64 + s)) d (2 ^ 64 - 1) (omega (arith, least)) product in omega (arith, h)
  where
    product : 2 ^ (64 + s) < (2 ^ 64 - 1) * d
    product = ⊎_elim
        (λ e. let power : 2 ^ (64 + s) ≡ 2 ^ 64 = ap (λ k. 2 ^ (64 + k)) e in omega (arith, power, least))
        (λ l.
        let power : 2 ^ (64 + s) ≡ 2 ^ 64 * 2 ^ s = pow-add 2 64 s in
        let top : 2 ^ s * 2 ^ (62 - s) ≡ 2 ^ 62 = sym (pow-add 2 s (62 - s)) ∙ ap (λ k. 2 ^ k) (let e : s + (62 - s) ≡ 62 = omega (arith, few) in e) in
        let some = pow_pos (62 - s) in
        let few : 2 ^ s * 1 ≤ 2 ^ s * 2 ^ (62 - s) = mul-le (2 ^ s) 1 (2 ^ s) (2 ^ (62 - s)) (le_refl (2 ^ s)) (omega (arith, some)) in
        omega (arith, power, top, few, l))
        close

-- what is shifted in 128 bits is the power itself
pub power_fits : (s : ℕ) → s ≤ 62 → 2 ^ (64 + s) < 2 ^ 128
power_fits s few =
    let power : 2 ^ (64 + s) * 2 ^ (64 - s) ≡ 2 ^ 128 = sym (pow-add 2 (64 + s) (64 - s))
    ∙ ap (λ k. 2 ^ k) (let e : 64 + s + (64 - s) ≡ 128 = omega (arith, few) in e) in
    let two : 2 ^ 1 * 2 ^ (63 - s) ≡ 2 ^ (64 - s) = sym (pow-add 2 1 (63 - s))
    ∙ ap (λ k. 2 ^ k) (let e : 1 + (63 - s) ≡ 64 - s = omega (arith, few) in e) in
    let some = pow_pos (63 - s) in
    let low = pow_pos (64 + s) in
    let most : 2 ^ (64 + s) * 2 ≤ 2 ^ (64 + s) * 2 ^ (64 - s) =
    mul-le (2 ^ (64 + s)) 2 (2 ^ (64 + s)) (2 ^ (64 - s)) (le_refl (2 ^ (64 + s))) (omega (arith, two, some)) in
    omega (arith, power, most, low)

-- a product of 63 and 64 bits, without its low 64 bits, has 64
pub product_fits : (n f : ℕ) → n < 2 ^ 63 → f < 2 ^ 64 → (n * f < 2 ^ 127) × (n * f / 2 ^ 64 < 2 ^ 64)
product_fits n f small few =
    let most : n * f ≤ (2 ^ 63 - 1) * (2 ^ 64 - 1) = mul-le n f (2 ^ 63 - 1) (2 ^ 64 - 1) (omega (arith, small)) (omega (arith, few)) in
    (omega (arith, most), div_below (n * f) (2 ^ 64) (2 ^ 64) (omega arith) (omega (arith, most)))

pub small_rest : (n w : ℕ) → n < w → n % w ≡ n
small_rest n w l = ap (λ x. x % w) (let e : n ≡ 0 * w + n = omega arith in e) ∙ mod-mul-add 0 w n l

-- a power that is shifted once more
pub doubled : (s : ℕ) → s < 62 → 2 * 2 ^ s % 2 ^ 64 ≡ 2 ^ (s + 1)
doubled s few =
    let twice : 2 ^ (s + 1) ≡ 2 ^ s * 2 = pow-add 2 s 1 in
    let above : 2 ^ s * 2 ^ (62 - s) ≡ 2 ^ 62 = sym (pow-add 2 s (62 - s))
    ∙ ap (λ k. 2 ^ k) (let e : s + (62 - s) ≡ 62 = omega (arith, few) in e) in
    let some = pow_pos (62 - s) in
    let low : 2 ^ s * 1 ≤ 2 ^ s * 2 ^ (62 - s) = mul-le (2 ^ s) 1 (2 ^ s) (2 ^ (62 - s)) (le_refl (2 ^ s)) (omega (arith, some)) in
    small_rest (2 * 2 ^ s) (2 ^ 64) (omega (arith, above, low)) ∙ (let e : 2 * 2 ^ s ≡ 2 ^ (s + 1) = omega (arith, twice) in e)

-- the power that is divided, as it is computed
pub power_divided : (s d r : ℕ) → s ≤ 62 → r ≡ d → 1 * 2 ^ (64 + s) % 2 ^ 128 / r ≡ 2 ^ (64 + s) / d
power_divided s d r few is =
    let one : 1 * 2 ^ (64 + s) ≡ 2 ^ (64 + s) = omega arith in
    ap (λ x. x % 2 ^ 128 / r) one ∙ ap (λ x. x / r) (small_rest (2 ^ (64 + s)) (2 ^ 128) (power_fits s few)) ∙ ap (λ x. 2 ^ (64 + s) / x) is
