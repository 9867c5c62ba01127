-- Laws of integers.
use Rattle.std.proofs.Common.{◌≡◌, ◌≢◌, ℕ, zero, suc, ◌+◌, ◌*◌, ℤ, pos, negsuc, neg_ℤ, ◌+ℤ◌, ◌*ℤ◌, refl, ap, ◌∙◌, arith}
use Rattle.std.proofs.lemmas.Int.{ints}
use borrow.Author.Differences.{up, down, sum_is_lem, neg_is, product_is, same_in}

times : (k : ℕ) (m n : ℕ) → m ≡ n → m * k ≡ n * k
times k m n e = ap (λ x. x * k) e

pub mul_comm : (a b : ℤ) → a *ℤ b ≡ b *ℤ a
mul_comm a b = omega (arith, ints)

pub mul_assoc : (a b c : ℤ) → (a *ℤ b) *ℤ c ≡ a *ℤ (b *ℤ c)
mul_assoc a b c =
    let ab = product_is a b in
    let bc = product_is b c in
    let left = product_is (a *ℤ b) c in
    let right = product_is a (b *ℤ c) in
    same_in _ _ (omega (
      arith,
      left,
      right,
      times (up c) _ _ ab.0,
      times (down c) _ _ ab.1,
      times (up a) _ _ bc.0,
      times (down a) _ _ bc.1,
      times (down c) _ _ ab.0,
      times (up c) _ _ ab.1,
      times (down a) _ _ bc.0,
      times (up a) _ _ bc.1,
    ))

pub add_mul : (a b c : ℤ) → (a +ℤ b) *ℤ c ≡ (a *ℤ c) +ℤ (b *ℤ c)
add_mul a b c =
    let s = sum_is_lem a b in
    let whole = product_is (a +ℤ b) c in
    let left = product_is a c in
    let right = product_is b c in
    let both = sum_is_lem (a *ℤ c) (b *ℤ c) in
    same_in _ _ (omega (arith, whole, left, right, both, times (up c) _ _ s, times (down c) _ _ s))

pub neg_mul : (a c : ℤ) → neg_ℤ a *ℤ c ≡ neg_ℤ (a *ℤ c)
neg_mul a c =
    let s = neg_is a in
    let whole = product_is (neg_ℤ a) c in
    let left = product_is a c in
    let out = neg_is (a *ℤ c) in
    same_in _ _ (omega (
      arith,
      whole,
      left,
      out,
      times (up c) _ _ s.0,
      times (down c) _ _ s.1,
      times (down c) _ _ s.0,
      times (up c) _ _
          s.1,
    ))

pub mul_add : (c a b : ℤ) → c *ℤ (a +ℤ b) ≡ (c *ℤ a) +ℤ (c *ℤ b)
mul_add c a b = mul_comm c (a +ℤ b) ∙ add_mul a b c ∙ ap (λ x. x +ℤ (b *ℤ c)) (mul_comm a c) ∙ ap (λ x. (c *ℤ a) +ℤ x) (mul_comm b c)

pub mul_neg : (c a : ℤ) → c *ℤ neg_ℤ a ≡ neg_ℤ (c *ℤ a)
mul_neg c a = mul_comm c (neg_ℤ a) ∙ neg_mul a c ∙ ap neg_ℤ (mul_comm a c)

-- the product of two differences
pub differences : (a b c d : ℕ) →
    (pos a +ℤ neg_ℤ (pos b)) *ℤ (pos c +ℤ neg_ℤ (pos d)) ≡ pos (a * c + b * d) +ℤ neg_ℤ (pos (a * d + b * c))
differences a b c d =
    let s = sum_is_lem (pos a) (neg_ℤ (pos b)) in
    let t = sum_is_lem (pos c) (neg_ℤ (pos d)) in
    let nb = neg_is (pos b) in
    let nd = neg_is (pos d) in
    let x = pos a +ℤ neg_ℤ (pos b) in
    let y = pos c +ℤ neg_ℤ (pos d) in
    let first = add_mul (pos a) (neg_ℤ (pos b)) y in
    let second = neg_mul (pos b) y in
    let third = mul_add (pos a) (pos c) (neg_ℤ (pos d)) in
    let fourth = mul_add (pos b) (pos c) (neg_ℤ (pos d)) in
    let fifth = mul_neg (pos a) (pos d) in
    let sixth = mul_neg (pos b) (pos d) in
    omega (arith, ints, first, second, third, fourth, fifth, sixth)

-- a product is 0 only where a factor is
pub no_factor : (a b : ℤ) → a *ℤ b ≡ pos 0 → a ≢ pos 0 → b ≡ pos 0
no_factor (pos zero) b is some = absurd (some refl)
no_factor (pos (suc a)) (pos zero) is some = refl
no_factor (pos (suc a)) (pos (suc b)) is some = absurd (omega (arith, ints, is))
no_factor (pos (suc a)) (negsuc b) is some = absurd (omega (arith, ints, is))
no_factor (negsuc a) (pos zero) is some = refl
no_factor (negsuc a) (pos (suc b)) is some = absurd (omega (arith, ints, is))
no_factor (negsuc a) (negsuc b) is some = absurd (omega (arith, ints, is))

-- what is other than 0 may be taken out
pub same_factor : (a b c : ℤ) → a *ℤ b ≡ a *ℤ c → a ≢ pos 0 → b ≡ c
same_factor a b c is some =
    let d = mul_add a b (neg_ℤ c) in
    let n = mul_neg a c in
    let nothing = no_factor a (b +ℤ neg_ℤ c) (omega (arith, ints, d, n, is)) some in
    omega (arith, ints, nothing)
