-- Lists of lists, and their entries.
use Rattle.std.proofs.Common.{◌≡◌, ℕ, zero, suc, ◌+◌, ◌<◌, List, [], ◌∷◌, length, map, Option, Some, refl, ap, ◌∙◌, arith}
use Rattle.std.specs.Prelude.{slice_get}
use Rattle.std.specs.List.{range_with_len, sum_by}
use Rattle.std.proofs.lemmas.List.Sums.{sum_by-cons}
use Rattle.pram_values.specs.Total.{total}
use Rattle.worker_histories.specs.Histories.{entry}

module _ {A : Type 0} where
  -- lists that are as long and have the same entries are one
  pub same_entries : (xs ys : List A) → length xs ≡ length ys → ((i : ℕ) → i < length xs → slice_get xs i ≡ slice_get ys i) → xs ≡ ys
  same_entries [] [] l h = refl
  same_entries [] (y ∷ ys) l h = cc
  same_entries (x ∷ xs) [] l h = cc
  same_entries (x ∷ xs) (y ∷ ys) l h =
      let e : x ≡ y = (let q : Option.Some x ≡ Some y = h 0 (omega arith) in cc) in
      let r = same_entries xs ys (omega (arith, l)) (λ i k. h (suc i) (omega (arith, k))) in
      (λ t. e t ∷ r t)

  pub range_entry : (f : ℕ → A) (n a i : ℕ) → i < n → slice_get (map f (range_with_len a n)) i ≡ Some (f (a + i))
  range_entry f zero a i h = absurd (omega (arith, h))
  range_entry f (suc n) a zero h = ap (λ k. Some (f k)) (omega arith)
  range_entry f (suc n) a (suc i) h = range_entry f n (a + 1) i (omega (arith, h)) ∙ ap (λ k. Some (f k)) (omega arith)

  pub range_long : (f : ℕ → A) (n a : ℕ) → length (map f (range_with_len a n)) ≡ n
  range_long f zero a = refl
  range_long f (suc n) a = ap suc (range_long f n (a + 1))

  -- the first of some lists, and the others
  abbrev pub first : List (List A) → List A
  first [] = []
  first (c ∷ cs) = c

  abbrev pub rest : List (List A) → List (List A)
  rest [] = []
  rest (c ∷ cs) = cs

  pub first_and_rest : (cs : List (List A)) (n : ℕ) → length cs ≡ suc n → cs ≡ first cs ∷ rest cs
  first_and_rest [] n h = cc
  first_and_rest (c ∷ cs) n h = refl

  pub entry_first : (cs : List (List A)) (i : ℕ) → entry cs 0 i ≡ slice_get (first cs) i
  entry_first [] i = refl
  entry_first (c ∷ cs) i = refl

  pub entry_rest : (cs : List (List A)) (k i : ℕ) → entry cs (suc k) i ≡ entry (rest cs) k i
  entry_rest [] k i = refl
  entry_rest (c ∷ cs) k i = refl

  pub range_shift : (f : ℕ → A) (n a : ℕ) → map f (range_with_len (a + 1) n) ≡ map (λ i. f (suc i)) (range_with_len a n)
  range_shift f zero a = refl
  range_shift f (suc n) a =
      let e : f (a + 1) ≡ f (suc a) = ap f (omega arith) in
      let r = range_shift f n (a + 1) in
      (λ t. e t ∷ r t)

  -- a sum over what is made of numbers
  pub sum_of_range : (size : A → ℕ) (f : ℕ → A) (n a : ℕ) →
      sum_by size (map f (range_with_len a n)) ≡ total 0 (λ (x y : ℕ). x + y) (λ i. size (f i)) (range_with_len a n)
  sum_of_range size f zero a = refl
  sum_of_range size f (suc n) a =
      sum_by-cons size (f a) (map f (range_with_len (a + 1) n)) ∙ ap (λ k. size (f a) + k) (sum_of_range size f n (a + 1))
