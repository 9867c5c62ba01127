-- An affine map with an inverse multiplier is a permutation.
use Rattle.std.proofs.Common.{◌≡◌, ℕ, ◌+◌, ◌-◌, ◌*◌, ◌/◌, ◌%◌, ◌<◌, sym, ap, ◌∙◌, arith}
use Rattle.std.proofs.lemmas.Nat.{div-add-mod', mul-mod_first, mul-mod_second, mod_below}
use Rattle.std.proofs.Math.Nat.{add-mul-mod_self_right, mod-add-mod, mod-eq_of_lt, mul_comm, mul_assoc, one-mul}
use Rattle.address_map.specs.Permutation.{IsInverse, affine, affine_back}

module _ (k a u b : ℕ) (unit : (a * u) % k ≡ 1 % k) (pos : 0 < k) where
  -- times a and times u is times 1
  cancel : (x : ℕ) → (a * (u * x)) % k ≡ x % k
  cancel x =
      ap (λ y. y % k) (sym (mul_assoc a u x))
      ∙ sym (mul-mod_first (a * u) x k)
      ∙ ap (λ y. (y * x) % k) unit
      ∙ mul-mod_first 1 x k
      ∙ ap (λ y. y % k) (one-mul x)

  swapped : (x : ℕ) → u * (a * x) ≡ a * (u * x)
  swapped x = sym (mul_assoc u a x) ∙ ap (λ y. y * x) (mul_comm u a) ∙ mul_assoc a u x

  -- b and what is left of it to k are together whole rows of k
  whole : (x : ℕ) → (x + b + (k - b % k)) % k ≡ x % k
  whole x =
      let s : b / k * k + b % k ≡ b = div-add-mod' b k in
      let m : b % k < k = mod_below b k pos in
      let e : x + b + (k - b % k) ≡ x + (b / k + 1) * k = omega arith in
      ap (λ y. y % k) e ∙ add-mul-mod_self_right x (b / k + 1) k

  undone : (x : ℕ) → x < k → affine_back k u b (affine k a b x) ≡ x
  undone x h =
      let d = k - b % k in
      sym (mul-mod_second u ((a * x + b) % k + d) k)
      ∙ ap (λ y. (u * y) % k) (mod-add-mod (a * x + b) k d ∙ whole (a * x))
      ∙ mul-mod_second u (a * x) k
      ∙ ap (λ y. y % k) (swapped x)
      ∙ cancel x
      ∙ mod-eq_of_lt h

  redone : (y : ℕ) → y < k → affine k a b (affine_back k u b y) ≡ y
  redone y h =
      let d = k - b % k in
      let turn : y + d + b ≡ y + b + d = omega arith in
      sym (mod-add-mod (a * ((u * (y + d)) % k)) k b)
      ∙ ap (λ z. (z + b) % k) (mul-mod_second a (u * (y + d)) k ∙ cancel (y + d))
      ∙ mod-add-mod (y + d) k b
      ∙ ap (λ z. z % k) turn
      ∙ whole y
      ∙ mod-eq_of_lt h

  pub affine_inverse : IsInverse k (affine k a b) (affine_back k u b)
  affine_inverse = record {
    below = λ x h. mod_below (a * x + b) k pos;
    back_below = λ y h. mod_below (u * (y + (k - b % k))) k pos;
    back = undone;
    forth = redone;
  }
