-- Slots are told apart by their block, their giver and their taker, and no two parcels on their way share one.
use Rattle.std.proofs.Common.{◌≡◌, ℕ, suc, ◌+◌, ◌*◌, ◌%◌, ◌<◌, ◌≤◌, ◌≢◌, ap, mul-le-mul_right, suc-mul, lt_of_not-le, mod-lt, arith}
use mathlib.Core.Logic.{dite}
use native.Mathlib.Decide.{dec_le, ℕ_discrete}
use Rattle.turnstile.specs.Turns.{slot}

further : (p a b j k : ℕ) → j < p → a < b → a * p + j < b * p + k
further p a b j k near lt = let m : suc a * p ≤ b * p = mul-le-mul_right p lt in let e = suc-mul a p in let x : ℕ = a * p in let y : ℕ =
    b * p in let m' : p + x ≤ y = omega (arith, m, e) in omega arith

-- two numbers in rows of p
pub rows_apart : (p a b j k : ℕ) → j < p → k < p → a * p + j ≡ b * p + k → (a ≡ b) × (j ≡ k)
rows_apart p a b j k lj lk e = dite (ℕ_discrete a b)
    (λ (same : a ≡ b). (
      same,
      (let m = ap (λ (z : ℕ). z * p) same in let x : ℕ = a * p in let y : ℕ = b * p in let m' : x ≡ y = m in
          let e' : x + j ≡ y + k = e in omega arith),
    ))
    (λ other. dite (dec_le b a)
    (λ le. let h = further p b a k j lk (let g : b < a = omega arith in g) in let x : ℕ = a * p in let y : ℕ = b * p in
    let h' : y + k < x + j = h in let e' : x + j ≡ y + k = e in absurd (omega arith))
    (λ gt. let h = further p a b j k lj (lt_of_not-le gt) in let x : ℕ = a * p in let y : ℕ = b * p in let h' : x + j < y + k = h in
    let e' : x + j ≡ y + k = e in absurd (omega arith)))

pub slots_apart : (p s i j t k l : ℕ) → i < p → j < p → k < p → l < p → slot p s i j ≡ slot p t k l → (s % 2 ≡ t % 2) × (i ≡ k) × (j ≡ l)
slots_apart p s i j t k l li lj lk ll e = let one = rows_apart p (s % 2 * p + i) (t % 2 * p + k) j l lj ll e in let two =
    rows_apart p (s % 2) (t % 2) i k li lk one.0 in (two.0, two.1, one.1)

pub slot_below : (p s i j : ℕ) → i < p → j < p → slot p s i j < 2 * p * p
slot_below p s i j li lj =
    let b : ℕ = s % 2 in let bb : b < 2 = mod-lt s (omega arith) in
    let m : b * p ≤ 1 * p = mul-le-mul_right p (let g : b ≤ 1 = omega arith in g) in let x : ℕ = b * p in
    let in_row : x + i < 2 * p = (let m' : x ≤ 1 * p = m in omega arith) in
    further' p (x + i) (2 * p) j lj in_row
  where
    further' : (p a b j : ℕ) → j < p → a < b → a * p + j < b * p
    further' p a b j near lt = let h = further p a b j 0 near lt in omega arith

pub same_turn : (a b s t : ℕ) → a ≤ s → s < a + 2 → a ≤ t → t < a + 2 → s % 2 ≡ t % 2 → s ≡ t
same_turn a b s t h₀ h₁ h₂ h₃ e = omega arith

module _ (p : ℕ) (T : ℕ → ℕ → ℕ) (G : ℕ → ℕ) where
  -- no one gives more than one parcel before it takes one, and a giver is at most two parcels ahead of a taker
  abbrev pub Paced : Type 0
  Paced = (i j : ℕ) → i < p → j < p → (G j ≤ T j i + 1) × (G i ≤ T j i + 2)

  -- the parcel s from i to j is on its way
  abbrev pub Way : ℕ → ℕ → ℕ → Type 0
  Way i j s = (i < p) × (j < p) × (T j i ≤ s) × (s < G i)

  abbrev pub Same : ℕ → ℕ → ℕ → ℕ → ℕ → ℕ → Type 0
  Same i j s k l t = (i ≡ k) × (j ≡ l) × (s ≡ t)

  module _ (paced : Paced) where
    one_way : (i j s t : ℕ) → Way i j s → Way i j t → s % 2 ≡ t % 2 → s ≡ t
    one_way i j s t a b e = let h = paced i j a.0 a.1 in omega arith

    same_lane : (i j s k l t : ℕ) → i ≡ k → j ≡ l → Way i j s → Way k l t → s % 2 ≡ t % 2 → Same i j s k l t
    same_lane i j s k l t x y a b e = (x, y, one_way i j s t a (rw (x, y) b) e)

    pub rows_differ : (i j s k l t : ℕ) → Way i j s → Way k l t → slot p s i j ≡ slot p t k l → Same i j s k l t
    rows_differ i j s k l t a b e = let d = slots_apart p s i j t k l a.0 a.1 b.0 b.1 e in same_lane i j s k l t d.1 d.2 a b d.0

    pub columns_differ : (i j s k l t : ℕ) → Way i j s → Way k l t → slot p (s + 1) j i ≡ slot p (t + 1) l k → Same i j s k l t
    columns_differ i j s k l t a b e = let d = slots_apart p (s + 1) j i (t + 1) l k a.1 a.0 b.1 b.0 e in
        same_lane i j s k l t d.2 d.1 a b (omega (arith, d.0))

    crossed : (i j s t : ℕ) → Way i j s → Way j i t → s % 2 ≡ (t + 1) % 2 → ⊥
    crossed i j s t a b e = let h = paced i j a.0 a.1 in let k = paced j i a.1 a.0 in omega arith

    pub rows_and_columns_differ : (i j s k l t : ℕ) → Way i j s → Way k l t → slot p s i j ≢ slot p (t + 1) l k
    rows_and_columns_differ i j s k l t a b e = let d = slots_apart p s i j (t + 1) l k a.0 a.1 b.1 b.0 e in
        crossed i j s t a (rw (d.1, d.2) b) d.0

pub below : (p a b j : ℕ) → j < p → a < b → a * p + j < b * p
below p a b j near lt = let h = further p a b j 0 near lt in omega arith

pub above : (p a b j : ℕ) → a ≤ b → a * p ≤ b * p + j
above p a b j le = let m : a * p ≤ b * p = mul-le-mul_right p le in let x : ℕ = a * p in let y : ℕ = b * p in let m' : x ≤ y = m in
    omega arith
