-- The inverse of an odd number below a power of two, by squaring.
use Rattle.std.proofs.Common.{◌≡◌, ℕ, ◌+◌, ◌*◌, ◌/◌, ◌%◌, ◌^◌, zero, suc, sym, ap, ◌∙◌, arith}
use Rattle.std.proofs.lemmas.Nat.{mul-mod, mul-mod_first, mul-mod_second, pow-add}
use Rattle.std.proofs.Math.Nat.{add-mul-mod_self_right, mul_assoc, mul-one, one-mul, pow-suc, pow-zero}

pow-one : (a : ℕ) → a ^ 1 ≡ a
pow-one a = pow-suc a 0 ∙ ap (λ y. y * a) (pow-zero a) ∙ one-mul a

pub doubled : (i : ℕ) → 2 ^ (i + 1) ≡ 2 ^ i + 2 ^ i
doubled i = let e = pow-add 2 i 1 in omega arith

pub squared : (a i : ℕ) → a ^ (2 ^ (i + 1)) ≡ a ^ (2 ^ i) * a ^ (2 ^ i)
squared a i = ap (λ e. a ^ e) (doubled i) ∙ pow-add a (2 ^ i) (2 ^ i)

-- the square of a number that leaves 1 leaves 1 at twice the modulus, where the modulus is even
square_one : (q n m : ℕ) → m ≡ n + n → (q * m + 1) * (q * m + 1) ≡ (q * q * n + q) * (m + m) + 1
square_one q n m e = rw e (omega arith)

odd_power : (a i : ℕ) → a % 2 ≡ 1 → (q : ℕ) × (a ^ (2 ^ i) ≡ q * 2 ^ (i + 1) + 1)
odd_power a zero odd =
    let e : a ^ (2 ^ 0) ≡ a = pow-one a in
    (a / 2, e ∙ omega (arith, odd))
odd_power a (suc i) odd =
    let o = odd_power a i odd in
    let s : suc i ≡ i + 1 = omega arith in
    let e : a ^ (2 ^ suc i) ≡ a ^ (2 ^ i) * a ^ (2 ^ i) = ap (λ k. a ^ (2 ^ k)) s ∙ squared a i in
    let w : 2 ^ (suc i + 1) ≡ 2 ^ (i + 1) + 2 ^ (i + 1) = ap (λ k. 2 ^ (k + 1)) s ∙ doubled (i + 1) in (
      o.0 * o.0 * 2 ^ i + o.0,
      e ∙ ap (λ y. y * y) o.1 ∙ square_one o.0 (2 ^ i) (2 ^ (i + 1)) (doubled i)
          ∙ ap (λ y. (o.0 * o.0 * 2 ^ i + o.0) * y + 1) (sym w),
    )

-- an odd number to the power 2 ^ i leaves 1 below 2 ^ i
pub odd_one : (a i : ℕ) → a % 2 ≡ 1 → a ^ (2 ^ i) % 2 ^ i ≡ 1 % 2 ^ i
odd_one a i odd =
    let o = odd_power a i odd in
    let e : o.0 * 2 ^ (i + 1) + 1 ≡ 1 + (o.0 + o.0) * 2 ^ i = (let d = doubled i in grind (arith, d)) in
    ap (λ y. y % 2 ^ i) (o.1 ∙ e) ∙ add-mul-mod_self_right 1 (o.0 + o.0) (2 ^ i)

-- the first square and inverse, one more of each, and the last inverse
pub first_square : (a k : ℕ) → a % k ≡ a ^ (2 ^ 0) % k
first_square a k = ap (λ y. y % k) (sym (pow-one a))

pub first_short : (a k : ℕ) → (a * (1 % k)) % k ≡ a % k
first_short a k = mul-mod_second a 1 k ∙ ap (λ y. y % k) (mul-one a)

pub next_square : (a k i s : ℕ) → s ≡ a ^ (2 ^ i) % k → (s * s) % k ≡ a ^ (2 ^ (i + 1)) % k
next_square a k i s e = ap (λ y. (y * y) % k) e ∙ sym (mul-mod (a ^ (2 ^ i)) (a ^ (2 ^ i)) k) ∙ ap (λ y. y % k) (sym (squared a i))

pub next_short : (a k s u : ℕ) → (a * u) % k ≡ s → (a * ((u * s) % k)) % k ≡ (s * s) % k
next_short a k s u e = mul-mod_second a (u * s) k ∙ ap (λ y. y % k) (sym (mul_assoc a u s)) ∙ sym (mul-mod_first (a * u) s k)
    ∙ ap (λ y. (y * s) % k) e

pub last_inverse : (a k i s u : ℕ) → a % 2 ≡ 1 → k ≡ 2 ^ i → s ≡ a ^ (2 ^ i) % k → (a * u) % k ≡ s → (a * u) % k ≡ 1 % k
last_inverse a k i s u odd is e f = f ∙ e ∙ ap (λ y. a ^ (2 ^ i) % y) is ∙ odd_one a i odd ∙ ap (λ y. 1 % y) (sym is)
