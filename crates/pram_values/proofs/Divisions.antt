-- Quotients and remainders by the signs of their parts.
use Rattle.std.proofs.Common.{◌≡◌, ◌≢◌, ℤ, ℕ, pos, negsuc, ◌<ℤ◌, ◌-ℤ◌, ◌+ℤ◌, ◌*ℤ◌, zero, suc, ◌+◌, ◌/◌, ◌%◌, ◌*◌, Err, ◌^◌, ◌<◌, ◌≤◌, arith}
use Rattle.std.proofs.Common.{ap, ◌∙◌, subst, sym, refl, neg_ℤ, FitsSigned, int_div, int_rem}
use Rattle.std.specs.Int.{w64}
use Rattle.std.proofs.lemmas.Int.{ints}
use Rattle.std.proofs.Math.Nat.{div-add-mod, div-le_self, mod-lt}
use Rattle.pram_values.specs.declared.kind.Kind.TheVariants.{DivideByZero}
use Rattle.pram_values.specs.Value.{Value}
use Rattle.pram_values.specs.Division.{quotient, floor_quotient, floor_remainder, IsRemainderFor}

pub zero_divisor : (x d : ℤ) → d ≡ pos 0 → ◌≡◌ {A = Value} (Err DivideByZero) (quotient x d)
zero_divisor x d e = rw e

-- the step below the rounded quotient of a number above 0 by one below 0
pub above_below : (x d : ℤ) → pos 0 <ℤ x → d <ℤ pos 0 → int_div (x -ℤ pos 1) d -ℤ pos 1 ≡ floor_quotient x d
above_below (pos zero) d a b = absurd (omega (arith, ints))
above_below (pos (suc x)) (pos d) a b = absurd (omega (arith, ints))
above_below (pos (suc x)) (negsuc d) a b =
    let one : pos (suc x) -ℤ pos 1 ≡ pos x = omega (arith, ints) in
    let below : int_div (pos x) (negsuc d) -ℤ pos 1 ≡ negsuc (x / suc d) = omega (arith, ints) in
    ap (λ z. int_div z (negsuc d) -ℤ pos 1) one ∙ below
above_below (negsuc x) d a b = absurd (omega (arith, ints))

-- ---- the steps of the code stay in range

neg_fits : (n : ℕ) → n < 2 ^ 63 → FitsSigned w64 (neg_ℤ (pos n))
neg_fits zero h = record { sfits = h }
neg_fits (suc n) h = record { sfits = omega arith }

pub before_fits : (x : ℤ) → pos 0 <ℤ x → FitsSigned w64 x → FitsSigned w64 (x -ℤ pos 1)
before_fits (pos zero) a f = absurd (omega (arith, ints))
before_fits (pos (suc x)) a f =
    let one : pos (suc x) -ℤ pos 1 ≡ pos x = omega (arith, ints) in
    let h : suc x < 2 ^ 63 = f.sfits in subst (FitsSigned w64) (sym one) (record { sfits = omega arith })
before_fits (negsuc x) a f = absurd (omega (arith, ints))

pub rounded_fits : (x d : ℤ) → pos 0 <ℤ x → d <ℤ pos 0 → FitsSigned w64 x → FitsSigned w64 (int_div (x -ℤ pos 1) d)
rounded_fits (pos zero) d a b f = absurd (omega (arith, ints))
rounded_fits (pos (suc x)) (pos d) a b f = absurd (omega (arith, ints))
rounded_fits (pos (suc x)) (negsuc d) a b f =
    let one : pos (suc x) -ℤ pos 1 ≡ pos x = omega (arith, ints) in
    let h : suc x < 2 ^ 63 = f.sfits in
    let l : x / suc d ≤ x = div-le_self x (suc d) in
    subst (λ z. FitsSigned w64 (int_div z (negsuc d))) (sym one) (neg_fits (x / suc d) (omega arith))
rounded_fits (negsuc x) d a b f = absurd (omega (arith, ints))

pub step_fits : (x d : ℤ) → pos 0 <ℤ x → d <ℤ pos 0 → FitsSigned w64 x → FitsSigned w64 (int_div (x -ℤ pos 1) d -ℤ pos 1)
step_fits (pos zero) d a b f = absurd (omega (arith, ints))
step_fits (pos (suc x)) (pos d) a b f = absurd (omega (arith, ints))
step_fits (pos (suc x)) (negsuc d) a b f =
    let one : pos (suc x) -ℤ pos 1 ≡ pos x = omega (arith, ints) in
    let h : suc x < 2 ^ 63 = f.sfits in
    let l : x / suc d ≤ x = div-le_self x (suc d) in
    let is : negsuc (x / suc d) ≡ int_div (pos x) (negsuc d) -ℤ pos 1 = omega (arith, ints) in
    subst (λ z. FitsSigned w64 (int_div z (negsuc d) -ℤ pos 1)) (sym one) (subst (FitsSigned w64) is (record { sfits = omega arith }))
step_fits (negsuc x) d a b f = absurd (omega (arith, ints))

-- ---- remainders by the signs of their parts

left_above_above : (x d q m : ℕ) → d * q + m ≡ x → pos x -ℤ pos d *ℤ pos q ≡ pos m
left_above_above x d q m e = omega (arith, ints)

left_below_above : (x d q m : ℕ) → suc d * q + m ≡ x → negsuc x -ℤ pos (suc d) *ℤ negsuc q ≡ (pos (suc d) -ℤ pos 1) -ℤ pos m
left_below_above x d q m e = omega (arith, ints)

left_above_below : (x d q m : ℕ) → suc d * q + m ≡ x → pos (suc x) -ℤ negsuc d *ℤ negsuc q ≡ pos m +ℤ pos 1 +ℤ negsuc d
left_above_below x d q m e = omega (arith, ints)

left_below_below : (x d q m : ℕ) → suc d * q + m ≡ suc x → negsuc x -ℤ negsuc d *ℤ pos q ≡ neg_ℤ (pos m)
left_below_below x d q m e = omega (arith, ints)

pub left_above : (x d : ℤ) → x <ℤ pos 0 → pos 0 <ℤ d → ((d -ℤ pos 1) -ℤ int_rem (negsuc 0 -ℤ x) d) ≡ floor_remainder x d
left_above (pos x) d a b = absurd (omega (arith, ints))
left_above (negsuc x) (pos zero) a b = absurd (omega (arith, ints))
left_above (negsuc x) (pos (suc d)) a b =
    let one : negsuc 0 -ℤ negsuc x ≡ pos x = omega (arith, ints) in
    ap (λ z. (pos (suc d) -ℤ pos 1) -ℤ int_rem z (pos (suc d))) one
    ∙ sym (left_below_above x d (x / suc d) (x % suc d) (div-add-mod x (suc d)))
left_above (negsuc x) (negsuc d) a b = absurd (omega (arith, ints))

pub left_below : (x d : ℤ) → pos 0 <ℤ x → d <ℤ pos 0 → ((int_rem (x -ℤ pos 1) d +ℤ pos 1) +ℤ d) ≡ floor_remainder x d
left_below (pos zero) d a b = absurd (omega (arith, ints))
left_below (pos (suc x)) (pos d) a b = absurd (omega (arith, ints))
left_below (pos (suc x)) (negsuc d) a b =
    let one : pos (suc x) -ℤ pos 1 ≡ pos x = omega (arith, ints) in
    ap (λ z. (int_rem z (negsuc d) +ℤ pos 1) +ℤ negsuc d) one
    ∙ sym (left_above_below x d (x / suc d) (x % suc d) (div-add-mod x (suc d)))
left_below (negsuc x) d a b = absurd (omega (arith, ints))

-- ---- the law

both_parts : (x y : ℤ) → x ≡ y +ℤ (x -ℤ y)
both_parts x y = omega (arith, ints)

pub splits : (x d : ℤ) → x ≡ d *ℤ floor_quotient x d +ℤ floor_remainder x d
splits x d = both_parts x (d *ℤ floor_quotient x d)

pub remainder_is_within : (x d : ℤ) → d ≢ pos 0 → IsRemainderFor d (floor_remainder x d)
remainder_is_within (pos x) (pos zero) h = absurd (h refl)
remainder_is_within (negsuc x) (pos zero) h = absurd (h refl)
remainder_is_within (pos x) (pos (suc d)) h = let m : x % suc d < suc d = mod-lt x (omega arith) in
    rw (left_above_above x (suc d) (x / suc d) (x % suc d) (div-add-mod x (suc d))) (omega (arith, ints), omega (arith, ints))
remainder_is_within (negsuc x) (pos (suc d)) h = let m : x % suc d < suc d = mod-lt x (omega arith) in
    rw (left_below_above x d (x / suc d) (x % suc d) (div-add-mod x (suc d))) (omega (arith, ints), omega (arith, ints))
remainder_is_within (pos zero) (negsuc d) h = (omega (arith, ints), omega (arith, ints))
remainder_is_within (pos (suc x)) (negsuc d) h = let m : x % suc d < suc d = mod-lt x (omega arith) in
    rw (left_above_below x d (x / suc d) (x % suc d) (div-add-mod x (suc d))) (omega (arith, ints), omega (arith, ints))
remainder_is_within (negsuc x) (negsuc d) h = let m : suc x % suc d < suc d = mod-lt (suc x) (omega arith) in
    rw (left_below_below x d (suc x / suc d) (suc x % suc d) (div-add-mod (suc x) (suc d))) (omega (arith, ints), omega (arith, ints))
