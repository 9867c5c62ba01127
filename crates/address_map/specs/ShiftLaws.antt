-- To fold a number's high bits onto its low bits is a permutation.
use Rattle.std.proofs.Common.{◌≡◌, ℕ, ◌+◌, ◌*◌, ◌/◌, ◌^◌, ◌%◌, ◌<◌, ◌≤◌, zero, suc, refl, sym, ap, ◌∙◌, arith}
use Rattle.std.specs.Int.Bits.{bit_xor, xor_assoc, xor_self, xor_zero_l, xor_zero_r}
use Rattle.std.proofs.lemmas.Nat.{xor_comm, xor_shr, xor_lt, shr-shr, shr_le, mod_below, mul-mod_second, mul-mod_first}
use Rattle.std.proofs.Math.Nat.{div-eq_of_lt, pow-le-pow_right, mul_assoc, one-mul, mod-eq_of_lt, mul_comm}
use Rattle.address_map.specs.Permutation.{IsInverse, round, shifted}

-- by s, and before that by 2 s, and before that by 4 s, n times
abbrev pub unshifted : ℕ → ℕ → ℕ → ℕ
unshifted zero s y = y
unshifted (suc n) s y = shifted s (unshifted n (s + s) y)

top : ℕ → ℕ → ℕ
top zero s = s
top (suc n) s = top n (s + s)

-- four numbers, the middle ones changed about
mixed : (a b c d : ℕ) → bit_xor (bit_xor a b) (bit_xor c d) ≡ bit_xor (bit_xor a c) (bit_xor b d)
mixed a b c d =
    xor_assoc a b (bit_xor c d)
    ∙ ap (bit_xor a) (sym (xor_assoc b c d) ∙ ap (λ x. bit_xor x d) (xor_comm b c) ∙ xor_assoc c b d)
    ∙ sym (xor_assoc a c (bit_xor b d))

twice_shifted : (s t y : ℕ) → shifted s (shifted t y) ≡ bit_xor (bit_xor y (y / 2 ^ t)) (bit_xor (y / 2 ^ s) (y / 2 ^ (t + s)))
twice_shifted s t y = ap (bit_xor (shifted t y)) (xor_shr y (y / 2 ^ t) s ∙ ap (bit_xor (y / 2 ^ s)) (shr-shr y t s))

turned : (s t y : ℕ) → shifted s (shifted t y) ≡ shifted t (shifted s y)
turned s t y =
    let e : t + s ≡ s + t = omega arith in
    twice_shifted s t y ∙ mixed y (y / 2 ^ t) (y / 2 ^ s) (y / 2 ^ (t + s))
    ∙ ap (λ k. bit_xor (bit_xor y (y / 2 ^ s)) (bit_xor (y / 2 ^ t) (y / 2 ^ k))) e ∙ sym (twice_shifted t s y)

xor_gone : (a b c : ℕ) → bit_xor a a ≡ 0 → bit_xor (bit_xor b a) (bit_xor a c) ≡ bit_xor b c
xor_gone a b c self = xor_assoc b a (bit_xor a c) ∙ ap (bit_xor b) (sym (xor_assoc a a c) ∙ ap (λ x. bit_xor x c) self ∙ xor_zero_l c)

doubled_shift : (s y : ℕ) → shifted s (shifted s y) ≡ shifted (s + s) y
doubled_shift s y = twice_shifted s s y ∙ xor_gone (y / 2 ^ s) y (y / 2 ^ (s + s)) (xor_self (y / 2 ^ s))

-- shifted by s and unshifted is shifted by top n s
shifted_unshifted : (n s y : ℕ) → shifted s (unshifted n s y) ≡ shifted (top n s) y
unfolding top
shifted_unshifted zero s y = refl
shifted_unshifted (suc n) s y = doubled_shift s (unshifted n (s + s) y) ∙ shifted_unshifted n (s + s) y

unshifted_turned : (n s t y : ℕ) → unshifted n t (shifted s y) ≡ shifted s (unshifted n t y)
unshifted_turned zero s t y = refl
unshifted_turned (suc n) s t y = ap (shifted t) (unshifted_turned n s (t + t) y) ∙ turned t s (unshifted n (t + t) y)

top_5 : (s : ℕ) → top 5 s ≡ s * 32
unfolding top
top_5 s = omega arith

-- nothing is left of a number below 2 ^ 32 after 32 places
pub shifted_far : (e t y : ℕ) → y < 2 ^ e → e ≤ t → shifted t y ≡ y
shifted_far e t y h far =
    let p = pow-le-pow_right {n = 2} (omega arith) far in
    ap (bit_xor y) (div-eq_of_lt (omega arith)) ∙ xor_zero_r y

shifted_below : (e s y : ℕ) → y < 2 ^ e → shifted s y < 2 ^ e
shifted_below e s y h = xor_lt e y (y / 2 ^ s) h (let l = shr_le y s in omega arith)

unshifted_below : (e n s y : ℕ) → y < 2 ^ e → unshifted n s y < 2 ^ e
unshifted_below e zero s y h = h
unshifted_below e (suc n) s y h = shifted_below e s (unshifted n (s + s) y) (unshifted_below e n (s + s) y h)

pub shift_inverse : (e s : ℕ) → e ≤ 20 → 1 ≤ s → IsInverse (2 ^ e) (shifted s) (unshifted 5 s)
shift_inverse e s small least =
    let far : e ≤ top 5 s = (let t = top_5 s in omega arith) in
    record {
      below = λ y h. shifted_below e s y h;
      back_below = λ y h. unshifted_below e 5 s y h;
      back = λ y h. unshifted_turned 5 s s y ∙ shifted_unshifted 5 s y ∙ shifted_far e (top 5 s) y h far;
      forth = λ y h. shifted_unshifted 5 s y ∙ shifted_far e (top 5 s) y h far;
    }

-- one permutation after another
pub inverse_after : (k : ℕ) (f g v w : ℕ → ℕ) → IsInverse k f g → IsInverse k v w → IsInverse k (λ x. v (f x)) (λ y. g (w y))
inverse_after k f g v w p q = record {
  below = λ x h. q.below (f x) (p.below x h);
  back_below = λ y h. p.back_below (w y) (q.back_below y h);
  back = λ x h. ap g (q.back (f x) (p.below x h)) ∙ p.back x h;
  forth = λ y h. ap v (p.forth (w y) (q.back_below y h)) ∙ q.forth y h;
}

-- what undoes a round, where u is the inverse of a below k
abbrev pub round_back : ℕ → ℕ → ℕ → ℕ → ℕ
round_back k u s y = (u * unshifted 5 s y) % k

times_undone : (k a u : ℕ) → (a * u) % k ≡ 1 % k → (x : ℕ) → x < k → (a * ((u * x) % k)) % k ≡ x
times_undone k a u unit x h =
    mul-mod_second a (u * x) k
    ∙ ap (λ y. y % k) (sym (mul_assoc a u x))
    ∙ sym (mul-mod_first (a * u) x k)
    ∙ ap (λ y. (y * x) % k) unit
    ∙ mul-mod_first 1 x k
    ∙ ap (λ y. y % k) (one-mul x)
    ∙ mod-eq_of_lt h

times_inverse : (k a u : ℕ) → (a * u) % k ≡ 1 % k → 0 < k → IsInverse k (λ x. (a * x) % k) (λ y. (u * y) % k)
times_inverse k a u unit pos = record {
  below = λ x h. mod_below (a * x) k pos;
  back_below = λ y h. mod_below (u * y) k pos;
  back = λ x h. times_undone k u a (ap (λ y. y % k) (mul_comm u a) ∙ unit) x h;
  forth = λ y h. times_undone k a u unit y h;
}

pub round_inverse : (e a u s : ℕ) → e ≤ 20 → 1 ≤ s → 0 < 2 ^ e → (a * u) % 2 ^ e ≡ 1 % 2 ^ e → IsInverse (2 ^ e) (round (2 ^ e) a s)
    (round_back (2 ^ e) u s)
round_inverse e a u s small least pos unit =
    inverse_after (2 ^ e) (λ x. (a * x) % 2 ^ e) (λ y. (u * y) % 2 ^ e) (shifted s) (unshifted 5 s) (times_inverse (2 ^ e) a u unit pos)
    (shift_inverse e s small least)
