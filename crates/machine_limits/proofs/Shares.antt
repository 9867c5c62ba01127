-- How many processors a worker has.
use Rattle.std.proofs.Common.{◌≡◌, ℕ, zero, suc, ◌+◌, ◌-◌, ◌*◌, ◌/◌, ◌%◌, ◌<◌, ◌≤◌, List, ◌∷◌, length, Bool, true, false, cond, eqb, refl}
use Rattle.std.proofs.Common.{sym, ap, ◌∙◌, subst, arith, ⊎_elim}
use Rattle.std.specs.List.{AllByRecursion, range_with_len}
use Rattle.std.proofs.lemmas.Bool.{cases_lt}
use Rattle.std.proofs.lemmas.Bool.Decides.{nat_tests}
use Rattle.std.proofs.Math.Nat.{div-add-mod, mul-le-mul_left, le-div_iff_mul-le, mod-eq_of_lt, add-mod_right}
use Rattle.pram_values.specs.Total.{in_class}
use Rattle.superstep_machine.specs.Setting.{Setting, workers, processors}
use Rattle.superstep_machine.proofs.MachineWords.{all_kept}
use Rattle.machine_limits.specs.Within.{share}

module _ (p : ℕ) (some : 0 < p) (w : ℕ) where
  -- two numbers of one class aren't less than p apart
  apart : (a e : ℕ) → suc e < p → a % p ≡ (a + suc e) % p → ⊥
  apart a e l h =
      let q = div-add-mod a p in
      let r = div-add-mod (a + suc e) p in
      ⊎_elim
      (λ k. let m = mul-le-mul_left p (let z : a / p + 1 ≤ (a + suc e) / p = omega (arith, k) in z) in
      let x : p * (a / p + 1) ≡ p * (a / p) + p = grind arith in omega (arith, q, r, l, h, m, x))
      (λ k. let m = mul-le-mul_left p k in omega (arith, q, r, h, m))
      (cases_lt (a / p) ((a + suc e) / p))

  abbrev members : ℕ → ℕ → List ℕ
  members a n = in_class (λ v. v % p) w (range_with_len a n)

  -- of n numbers from a on, where the first of the class is d further on
  few : (n a d : ℕ) → d < p → (a + d) % p ≡ w → p * length (members a n) + d ≤ n + (p - 1)
  few zero a d l h = let z : p * 0 ≡ 0 = grind arith in omega (arith, l, z)
  few (suc n) a zero l h =
      let here : a % p ≡ w = ap (λ k. k % p) (let z : a ≡ a + 0 = omega arith in z) ∙ h in
      let next : (a + 1 + (p - 1)) % p ≡ w = ap (λ k. k % p) (let z : a + 1 + (p - 1) ≡ a + p = omega (arith, some) in z)
      ∙ add-mod_right a p ∙ here in
      let rest = few n (a + 1) (p - 1) (omega (arith, some)) next in
      let is : eqb (a % p) w ≡ true = grind (arith, nat_tests) in
      let x : p * suc (length (members (a + 1) n)) ≡ p + p * length (members (a + 1) n) = grind arith in
      subst (λ (b : Bool). p * length (cond b (a ∷ members (a + 1) n) (members (a + 1) n)) + 0 ≤ suc n + (p - 1)) (sym is)
      (omega (arith, rest, x, some))
  few (suc n) a (suc e) l h =
      let next : (a + 1 + e) % p ≡ w = ap (λ k. k % p) (let z : a + 1 + e ≡ a + suc e = omega arith in z) ∙ h in
      let rest = few n (a + 1) e (omega (arith, l)) next in
      go (eqb (a % p) w) refl rest
    where
      go : (b : Bool) → eqb (a % p) w ≡ b → p * length (members (a + 1) n) + e ≤ n + (p - 1) →
          p * length (cond b (a ∷ members (a + 1) n) (members (a + 1) n)) + suc e ≤ suc n + (p - 1)
      go true is rest = absurd (apart a e l (let z : a % p ≡ w = grind (arith, nat_tests) in z ∙ sym h))
      go false is rest = omega (arith, rest)

-- a worker's processors of a range that isn't wider than the code has processors
pub few_processors : (t : Setting) (w width : ℕ) → w < workers t → width ≤ t.code.procs → length (processors t w width) ≤ share t
few_processors t w width l h =
    let p = workers t in
    let some : 0 < p = omega (arith, l) in
    let f = few p some w width 0 w l (ap (λ k. k % p) (let z : 0 + w ≡ w = omega arith in z) ∙ mod-eq_of_lt l) in
    let m : length (processors t w width) * p ≡ p * length (processors t w width) = grind arith in
    (le-div_iff_mul-le some).1 (omega (arith, f, m, h))

-- and there is room for one
pub some_share : (t : Setting) → 0 < workers t → 0 < t.code.procs → 1 ≤ share t
some_share t some h = (le-div_iff_mul-le some).1 (omega (arith, h, some))

-- ---- their numbers

range_below : (k n m : ℕ) → k + n ≤ m → AllByRecursion (λ v. v < m) (range_with_len k n)
range_below k zero m h = tt
range_below k (suc n) m h = (omega (arith, h), range_below (k + 1) n m (omega (arith, h)))

pub numbers_below : (t : Setting) (w width : ℕ) → AllByRecursion (λ v. v < width) (processors t w width)
numbers_below t w width = all_kept (λ v. v < width) (λ v. eqb (v % workers t) w) (range_with_len 0 width)
    (range_below 0 width width (omega arith))
