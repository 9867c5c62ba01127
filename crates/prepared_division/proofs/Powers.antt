-- A power of two that a shift makes.
use Rattle.std.proofs.Common.{◌≡◌, ℕ, ◌+◌, ◌-◌, ◌*◌, ◌%◌, ◌^◌, ◌≤◌, pos, to_z, w64, ap, sym, ◌∙◌, arith}
use Rattle.std.proofs.lemmas.Int.{to_z_pos}
use Rattle.std.proofs.lemmas.Nat.{mul-le, pow-add, pow_pos}
use Rattle.std.proofs.Math.Nat.{le_refl}
use Rattle.prepared_division.proofs.Factors.{small_rest}

-- it has 63 bits
pub power_small : (s : ℕ) → s ≤ 62 → 2 ^ s ≤ 2 ^ 62
power_small s few =
    let above : 2 ^ s * 2 ^ (62 - s) ≡ 2 ^ 62 = sym (pow-add 2 s (62 - s))
    ∙ ap (λ k. 2 ^ k) (let e : s + (62 - s) ≡ 62 = omega (arith, few) in e) in
    let some = pow_pos (62 - s) in
    let low : 2 ^ s * 1 ≤ 2 ^ s * 2 ^ (62 - s) = mul-le (2 ^ s) 1 (2 ^ s) (2 ^ (62 - s)) (le_refl (2 ^ s)) (omega (arith, some)) in
    omega (arith, above, low)

-- so the shifted one is the power, as a signed number too
pub shifted : (s : ℕ) → s ≤ 62 → 1 * 2 ^ s % 2 ^ 64 ≡ 2 ^ s
shifted s few =
    let small = power_small s few in
    let one : 1 * 2 ^ s ≡ 2 ^ s = omega arith in
    ap (λ n. n % 2 ^ 64) one ∙ small_rest (2 ^ s) (2 ^ 64) (omega (arith, small))

pub shifted_signed : (s : ℕ) → s ≤ 62 → to_z w64 (1 * 2 ^ s % 2 ^ 64) ≡ pos (2 ^ s)
shifted_signed s few =
    let small = power_small s few in
    ap (to_z w64) (shifted s few) ∙ to_z_pos w64 (2 ^ s) (omega (arith, small))
