-- Sums that are collected from the last number of a range down to the first.
use Rattle.std.proofs.Common.{◌≡◌, ℕ, suc, ◌+◌, ◌-◌, ◌≤◌, List, [], ◌∷◌, Bool, false, ◌||◌, refl, sym, ap, ◌∙◌, arith}
use Rattle.std.specs.List.{list_any, range_with_len}
use Rattle.pram_values.specs.Total.{total}

-- the sum over the numbers below n that are not below v
pub record IsSumFrom {M : Type 0} (e : M) (op : M → M → M) (f : ℕ → M) (n v : ℕ) (sum : M) : Type 0 where
  pub bound : v ≤ n
  pub value : sum ≡ total e op f (range_with_len v (n - v))

module _ {M : Type 0} (e : M) (op : M → M → M) (f : ℕ → M) where
  none_left : (n v : ℕ) → n ≤ v → e ≡ total e op f (range_with_len v (n - v))
  none_left n v h = let q : 0 ≡ n - v = omega arith in ap (λ m. total e op f (range_with_len v m)) q

  one_more : (n v w : ℕ) → w + 1 ≡ v → v ≤ n → op (f w) (total e op f (range_with_len v (n - v))) ≡ total e op f (range_with_len w (n - w))
  one_more n v w q h =
      let rest : suc (n - v) ≡ n - w = omega arith in
      ap (λ k. op (f w) (total e op f (range_with_len k (n - v)))) (sym q) ∙ ap (λ m. total e op f (range_with_len w m)) rest

  pub sum_starts : (n : ℕ) → IsSumFrom e op f n n e
  sum_starts n = record { bound = omega arith; value = none_left n n (omega arith) }

  -- the number before v
  pub sum_goes : (n v w : ℕ) (s x : M) → IsSumFrom e op f n v s → w + 1 ≡ v → x ≡ op (f w) s → IsSumFrom e op f n w x
  sum_goes n v w s x h p q =
      let l = h.bound in
      record { bound = omega arith; value = q ∙ ap (op (f w)) h.value ∙ one_more n v w p l }

  pub sum_ends : (n v : ℕ) (s : M) → IsSumFrom e op f n v s → v ≤ 0 → s ≡ total e op f (range_with_len 0 n)
  sum_ends n v s h p =
      let q : v ≡ 0 = omega arith in
      let r : n - 0 ≡ n = omega arith in
      h.value ∙ ap (λ k. total e op f (range_with_len k (n - k))) q ∙ ap (λ m. total e op f (range_with_len 0 m)) r

-- whether any is true, as a sum
pub any_is : (p : ℕ → Bool) (xs : List ℕ) → total false (λ a b. a || b) p xs ≡ list_any p xs
any_is p [] = refl
any_is p (x ∷ xs) = ap (λ b. p x || b) (any_is p xs)
