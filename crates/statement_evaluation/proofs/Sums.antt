-- Sums over lists of lists, and by cells.
use Rattle.std.proofs.Common.{◌≡◌, ℕ, ◌<◌, List, [], ◌∷◌, Bool, true, false, cond, eqb, Option, Some, None, refl, sym, ap, ◌∙◌, arith}
use Rattle.std.proofs.lemmas.Bool.Decides.{nat_tests}
use Rattle.std.specs.List.{flat_map, range_with_len, AllByRecursion}
use Rattle.pram_values.specs.Total.{IsMonoid, total}
use Rattle.pram_values.proofs.Totals.{total_same, total_none, total_joined, total_at, total_swap}

-- what a function gives for something that may be missing
abbrev pub on : {A M : Type 0} → M → (A → M) → Option A → M
on e f None = e
on e f (Some a) = f a

-- whether it is this number
abbrev pub is_at : ℕ → Option ℕ → Bool
is_at c None = false
is_at c (Some d) = eqb d c

abbrev pub IsBelow : ℕ → Option ℕ → Type 0
IsBelow n None = Unit {0}
IsBelow n (Some d) = d < n

module _ {M : Type 0} (e : M) (op : M → M → M) (m : IsMonoid M e op) where
  pub total_flat : {A B : Type 0} (f : B → M) (g : A → List B) (xs : List A) →
      total e op f (flat_map g xs) ≡ total e op (λ x. total e op f (g x)) xs
  total_flat f g [] = refl
  total_flat f g (x ∷ xs) = total_joined e op m f (g x) (flat_map g xs) ∙ ap (op (total e op f (g x))) (total_flat f g xs)

  cond_same : (f : ℕ → M) (d c : ℕ) → cond (eqb d c) (f c) e ≡ cond (eqb d c) (f d) e
  cond_same f d c = go (eqb d c) refl
    where
      go : (b : Bool) → eqb d c ≡ b → cond b (f c) e ≡ cond b (f d) e
      go true h = ap f (let k : c ≡ d = grind (arith, nat_tests, h) in k)
      go false h = refl

  -- one term, as a sum over all numbers below n
  pub total_one : (f : ℕ → M) (n : ℕ) (o : Option ℕ) → IsBelow n o →
      on e f o ≡ total e op (λ c. cond (is_at c o) (f c) e) (range_with_len 0 n)
  total_one f n None h = sym (total_none e op m (λ c. e) (λ c. refl) (range_with_len 0 n))
  total_one f n (Some d) h =
      sym (total_same e op (λ c. cond (eqb d c) (f c) e) (λ c. cond (eqb d c) (f d) e) (cond_same f d) (range_with_len 0 n)
      ∙ total_at e op m (f d) d n 0 (omega arith) (omega arith))

  total_ones : {A : Type 0} (f : A → ℕ → M) (o : A → Option ℕ) (n : ℕ) (xs : List A) → AllByRecursion (λ x. IsBelow n (o x)) xs →
      total e op (λ x. on e (f x) (o x)) xs ≡ total e op (λ x. total e op (λ c. cond (is_at c (o x)) (f x c) e) (range_with_len 0 n)) xs
  total_ones f o n [] h = refl
  total_ones f o n (x ∷ xs) h = (λ i. op (total_one (f x) n (o x) h.0 i) (total_ones f o n xs h.1 i))

  -- terms of items that each have a number, number by number
  pub by_number : {A : Type 0} (f : A → ℕ → M) (o : A → Option ℕ) (n : ℕ) (xs : List A) → AllByRecursion (λ x. IsBelow n (o x)) xs →
      total e op (λ x. on e (f x) (o x)) xs ≡ total e op (λ c. total e op (λ x. cond (is_at c (o x)) (f x c) e) xs) (range_with_len 0 n)
  by_number f o n xs h = total_ones f o n xs h ∙ total_swap e op m (λ x c. cond (is_at c (o x)) (f x c) e) xs (range_with_len 0 n)
