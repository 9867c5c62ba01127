-- Sums of products, and equations without a column.
use Rattle.std.proofs.Common.{◌≡◌, ℕ, zero, suc, ◌+◌, ◌*◌, ◌^◌, ◌<◌, ◌≤◌, ℤ, neg_ℤ, ◌+ℤ◌, refl, sym, ap, ◌∙◌, arith}
use Rattle.std.proofs.Common.{◌*ℤ◌, subst}
use Rattle.std.proofs.lemmas.Int.{ints}
use Rattle.std.proofs.lemmas.Nat.{mul-lt, pow-add}
use Rattle.std.proofs.Math.Nat.{pow-le-pow_right}
use Rattle.sweeps.specs.declared.wide.Wide.{Wide}
use Rattle.sweeps.specs.Equations.{Vector, bits, crossed, dot}
use Rattle.sweeps.specs.Naturals.{limit, number}
use Rattle.sweeps.specs.Wides.{IsWithin, integer, minus_with, plus_with}
use Rattle.sweeps.proofs.Ring.{add_mul, differences, mul_add, mul_assoc, neg_mul}

pub dot_same : (n : ℕ) (x y z : Vector) → ((i : ℕ) → i < n → x i ≡ y i) → dot n x z ≡ dot n y z
dot_same zero x y z same = refl
dot_same (suc n) x y z same =
    let h = dot_same n x y z (λ i less. same i (omega (arith, less))) in
    ap (λ s. s +ℤ (x n *ℤ z n)) h ∙ ap (λ v. dot n y z +ℤ (v *ℤ z n)) (same n (omega arith))

pub dot_vectors : (n : ℕ) (x y z : Vector) → ((i : ℕ) → i < n → y i ≡ z i) → dot n x y ≡ dot n x z
dot_vectors zero x y z same = refl
dot_vectors (suc n) x y z same =
    let h = dot_vectors n x y z (λ i less. same i (omega (arith, less))) in
    ap (λ s. s +ℤ (x n *ℤ y n)) h ∙ ap (λ v. dot n x z +ℤ (x n *ℤ v)) (same n (omega arith))

cross_step : (p q s t x y z : ℤ) →
    ((p *ℤ s) +ℤ neg_ℤ (q *ℤ t)) +ℤ (((p *ℤ x) +ℤ neg_ℤ (q *ℤ y)) *ℤ z) ≡ (p *ℤ (s +ℤ (x *ℤ z))) +ℤ neg_ℤ (q *ℤ (t +ℤ (y *ℤ z)))
cross_step p q s t x y z =
    let a = add_mul (p *ℤ x) (neg_ℤ (q *ℤ y)) z in
    let b = neg_mul (q *ℤ y) z in
    let c = mul_assoc p x z in
    let d = mul_assoc q y z in
    let e = mul_add p s (x *ℤ z) in
    let f = mul_add q t (y *ℤ z) in
    omega (arith, ints, a, b, c, d, e, f)

pub dot_crossed : (n column : ℕ) (x p z : Vector) →
    dot n (crossed column x p) z ≡ (p column *ℤ dot n x z) +ℤ neg_ℤ (x column *ℤ dot n p z)
dot_crossed zero column x p z = omega (arith, ints)
dot_crossed (suc n) column x p z =
    ap (λ s. s +ℤ (crossed column x p n *ℤ z n)) (dot_crossed n column x p z)
    ∙ cross_step (p column) (x column) (dot n x z) (dot n p z) (x n) (p n) (z n)

-- ---- products of numbers with some bits

pub product_below : (m n j k : ℕ) → m < 2 ^ j → n < 2 ^ k → m * n < 2 ^ (j + k)
product_below m n j k a b = subst (λ t. m * n < t) (sym (pow-add 2 j k)) (mul-lt m n (2 ^ j) (2 ^ k) a b)

pub four_below : (a b c d k : ℕ) → a < 2 ^ k → b < 2 ^ k → c < 2 ^ k → d < 2 ^ k → a + b + (c + d) < 2 ^ (k + 2)
four_below a b c d k ab bb cb db =
    let e : k + 2 ≡ suc (suc k) = omega arith in
    subst (λ n. a + b + (c + d) < 2 ^ n) (sym e) (omega (arith, ab, bb, cb, db))

pub products_below : (a b c d : Wide) (j k : ℕ) → IsWithin j a → IsWithin k b → IsWithin j c → IsWithin k d →
    (number a.plus * number b.plus + number a.minus * number b.minus
    + (number c.plus * number d.plus + number c.minus * number d.minus) < 2 ^ (j + k + 2))
    × (number a.plus * number b.minus + number a.minus * number b.plus
    + (number c.plus * number d.minus + number c.minus * number d.plus) < 2 ^ (j + k + 2))
products_below a b c d j k wa wb wc wd = (
  four_below _ _ _ _ (j + k) (product_below _ _ j k wa.plus wb.plus) (product_below _ _ j k wa.minus wb.minus)
      (product_below _ _ j k wc.plus wd.plus) (product_below _ _ j k wc.minus wd.minus),
  four_below _ _ _ _ (j + k) (product_below _ _ j k wa.plus wb.minus) (product_below _ _ j k wa.minus wb.plus)
      (product_below _ _ j k wc.plus wd.minus) (product_below _ _ j k wc.minus wd.plus),
)

pub has_room : (n k : ℕ) → n < 2 ^ k → k ≤ 1024 → n < limit
has_room n k below fits = let h = pow-le-pow_right {n = 2} (omega arith) {i = k} {j = 1024} fits in omega (arith, below, h)

-- ---- one entry without a column

module _ (column i : ℕ) (other x mine y minus : Wide) (small : bits column column + bits column i + 2 ≤ 1024)
    (wo : IsWithin (bits column column) other) (wx : IsWithin (bits column i) x) (wm : IsWithin (bits column column) mine)
    (wy : IsWithin (bits column i) y) (turned : number minus.plus ≡ number mine.minus) (turned' : number minus.minus ≡ number
    mine.plus) where
  within_minus : IsWithin (bits column column) minus
  within_minus =
      let a = wm.minus in let b = wm.plus in
      record {
        plus = subst (λ n. n < 2 ^ bits column column) (sym turned) a;
        minus = subst (λ n. n < 2 ^ bits column column) (sym turned') b;
      }

  below : (number other.plus * number x.plus + number other.minus * number x.minus
      + (number minus.plus * number y.plus + number minus.minus * number y.minus) < 2 ^ (bits column column + bits column i + 2))
      × (number other.plus * number x.minus + number other.minus * number x.plus
      + (number minus.plus * number y.minus + number minus.minus * number y.plus) < 2 ^ (bits column column + bits column i + 2))
  below = products_below other x minus y (bits column column) (bits column i) wo wx within_minus wy

  pub crossed_room : (number other.plus * number x.plus + number other.minus * number x.minus
      + (number minus.plus * number y.plus + number minus.minus * number y.minus) < limit)
      × (number other.plus * number x.minus + number other.minus * number x.plus
      + (number minus.plus * number y.minus + number minus.minus * number y.plus) < limit)
  crossed_room = (
    has_room _ (bits column column + bits column i + 2) below.0 small,
    has_room _ (bits column column + bits column i +
        2) below.1 small,
  )

  module _ (to : Wide)
      (plus : number to.plus ≡ number other.plus * number x.plus + number other.minus * number x.minus
      + (number minus.plus * number y.plus + number minus.minus * number y.minus))
      (less : number to.minus ≡ number other.plus * number x.minus + number other.minus * number x.plus
      + (number minus.plus * number y.minus + number minus.minus * number y.plus)) where
    pub crossed_within : IsWithin (bits (suc column) i) to
    crossed_within = record {
      plus = subst (λ n. n < 2 ^ (bits column column + bits column i + 2)) (sym plus) below.0;
      minus = subst (λ n. n < 2 ^ (bits column column + bits column i + 2)) (sym less) below.1;
    }

    pub crossed_value : integer to ≡ (integer other *ℤ integer x) +ℤ neg_ℤ (integer mine *ℤ integer y)
    crossed_value =
        let a = ap (λ n. n * number y.plus) turned in
        let b = ap (λ n. n * number y.minus) turned' in
        let d = ap (λ n. n * number y.minus) turned in
        let e = ap (λ n. n * number y.plus) turned' in
        let first = differences (number other.plus) (number other.minus) (number x.plus) (number x.minus) in
        let second = differences (number mine.plus) (number mine.minus) (number y.plus) (number y.minus) in
        omega (arith, ints, plus, less, a, b, d, e, first, second)

-- an integer and a product of two others
pub with_product_value : (sum a b to : Wide) → number to.plus ≡ plus_with sum a b → number to.minus ≡ minus_with sum a b →
    integer to ≡ integer sum +ℤ (integer a *ℤ integer b)
with_product_value sum a b to plus minus =
    let d = differences (number a.plus) (number a.minus) (number b.plus) (number b.minus) in omega (arith, ints, plus, minus, d)

-- ---- one more product in a sum
module _ (sum a b : Wide) (i : ℕ) (wa : IsWithin 842 a) (wb : IsWithin 128 b) (less : i < 7) (plus : number sum.plus ≤ i * 2 ^ 971)
    (minus : number sum.minus ≤ i * 2 ^ 971) where
  pub next_plus : plus_with sum a b ≤ (i + 1) * 2 ^ 971
  next_plus =
      let x = product_below _ _ 842 128 wa.plus wb.plus in
      let y = product_below _ _ 842 128 wa.minus wb.minus in
      omega (arith, plus, x, y)

  pub next_minus : minus_with sum a b ≤ (i + 1) * 2 ^ 971
  next_minus =
      let x = product_below _ _ 842 128 wa.plus wb.minus in
      let y = product_below _ _ 842 128 wa.minus wb.plus in
      omega (arith, minus, x, y)

  pub room_plus : plus_with sum a b < limit
  room_plus = let h = next_plus in omega (arith, h, less)

  pub room_minus : minus_with sum a b < limit
  room_minus = let h = next_minus in omega (arith, h, less)
