-- Lists by the place of each item.
use Rattle.std.proofs.Common.{◌≡◌, ℕ, zero, suc, ◌+◌, ◌<◌, List, [], ◌∷◌, ◌++◌, length, map, set, get_or, Some, refl, sym, ap, ◌∙◌, subst}
use Rattle.std.proofs.Common.{arith, ⊎_elim}
use Rattle.std.specs.Prelude.{slice_get}
use Rattle.std.specs.List.{range_with_len}
use Rattle.std.proofs.lemmas.Bool.{cases_eq}
use Rattle.std.proofs.lemmas.Option.{slice_get_within, slice_get-get_or}

module _ {A : Type 0} where
  get_same : (xs : List A) (i : ℕ) (x : A) → i < length xs → slice_get (set xs i x) i ≡ Some x
  get_same [] i x h = absurd (omega (arith, h))
  get_same (y ∷ xs) zero x h = refl
  get_same (y ∷ xs) (suc i) x h = get_same xs i x (omega (arith, h))

  pub get_other : (xs : List A) (i k : ℕ) (x : A) → (k ≡ i → ⊥) → slice_get (set xs i x) k ≡ slice_get xs k
  get_other [] i k x h = refl
  get_other (y ∷ xs) zero zero x h = absurd (h refl)
  get_other (y ∷ xs) zero (suc k) x h = refl
  get_other (y ∷ xs) (suc i) zero x h = refl
  get_other (y ∷ xs) (suc i) (suc k) x h = get_other xs i k x (λ e. h (ap suc e))

  pub get_is : (xs : List A) (i : ℕ) (x d : A) → slice_get xs i ≡ Some x → get_or xs i d ≡ x
  get_is [] i x d h = cc
  get_is (y ∷ xs) zero x d h = cc
  get_is (y ∷ xs) (suc i) x d h = get_is xs i x d h

  pub some_is : (x y : A) → Some x ≡ Some y → x ≡ y
  some_is x y e = cc

  pub one_there : (xs : List A) (i : ℕ) (x y : A) → slice_get xs i ≡ Some x → slice_get xs i ≡ Some y → x ≡ y
  one_there xs i x y e f = some_is x y (sym e ∙ f)

  -- what holds of the item that is set, and of all others, holds of each
  pub set_each : (xs : List A) (i : ℕ) (new : A) (P : ℕ → A → Type 0) → i < length xs → P i new →
      ((k : ℕ) (x : A) → (k ≡ i → ⊥) → slice_get xs k ≡ Some x → P k x) → (k : ℕ) (x : A) → slice_get (set xs i new) k ≡ Some x → P k x
  set_each xs i new P h here others k x e =
      ⊎_elim
      (λ (same : k ≡ i).
      subst (λ j. P j x) (sym same)
      (subst (P i) (some_is new x (sym (get_same xs i new h) ∙ subst (λ j. slice_get (set xs i new) j ≡ Some x) same e)) here))
      (λ (apart : k ≡ i → ⊥). others k x apart (sym (get_other xs i k new apart) ∙ e)) (cases_eq k i)

  -- what holds of all items, and of one more at the end, holds of each
  pub each_added : (xs : List A) (y : A) (P : ℕ → A → Type 0) (a : ℕ) → ((i : ℕ) (x : A) → slice_get xs i ≡ Some x → P (a + i) x) →
      P (a + length xs) y → (i : ℕ) (x : A) → slice_get (xs ++ y ∷ []) i ≡ Some x → P (a + i) x
  each_added [] y P a each last zero x e = subst (P (a + 0)) (some_is y x e) last
  each_added [] y P a each last (suc i) x e = cc
  each_added (z ∷ xs) y P a each last zero x e = each 0 x e
  each_added (z ∷ xs) y P a each last (suc i) x e =
      subst (λ j. P j x) (let same : suc a + i ≡ a + suc i = omega arith in same)
      (each_added xs y P (suc a)
      (λ j q f. subst (λ k. P k q) (let same : a + suc j ≡ suc a + j = omega arith in same) (each (suc j) q f))
      (subst (λ k. P k y) (let same : a + suc (length xs) ≡ suc a + length xs = omega arith in same) last) i x e)

  -- items and numbers, mapped to the same
  pub map_by : {B : Type 0} (f : A → B) (g : ℕ → B) (xs : List A) (a : ℕ) →
      ((i : ℕ) (x : A) → slice_get xs i ≡ Some x → f x ≡ g (a + i)) → map f xs ≡ map g (range_with_len a (length xs))
  map_by f g [] a h = refl
  map_by f g (x ∷ xs) a h =
      let e : f x ≡ g a = h 0 x refl ∙ ap g (omega arith) in
      let r = map_by f g xs (a + 1) (λ i y k. h (suc i) y k ∙ ap g (omega arith)) in
      (λ t. e t ∷ r t)

  pub map_at : {B : Type 0} (f : A → B) (xs : List A) (i : ℕ) (x : A) → slice_get xs i ≡ Some x → slice_get (map f xs) i ≡ Some (f x)
  map_at f [] i x h = cc
  map_at f (y ∷ xs) zero x h = ap (λ z. Some (f z)) (some_is y x h)
  map_at f (y ∷ xs) (suc i) x h = map_at f xs i x h

module _ {A : Type 0} (f : ℕ → A) where
  -- one number more, at the end and at the beginning
  pub range_more : (n a : ℕ) → map f (range_with_len a (suc n)) ≡ map f (range_with_len a n) ++ f (a + n) ∷ []
  range_more zero a = ap (λ k. f k ∷ []) (omega arith)
  range_more (suc n) a = ap (λ ys. f a ∷ ys) (range_more n (a + 1) ∙ ap (λ k. map f (range_with_len (a + 1) n) ++ f k ∷ []) (omega arith))

  pub range_at : (n a i : ℕ) → i < n → slice_get (map f (range_with_len a n)) i ≡ Some (f (a + i))
  range_at zero a i h = absurd (omega (arith, h))
  range_at (suc n) a zero h = ap (λ k. Some (f k)) (omega arith)
  range_at (suc n) a (suc i) h = range_at n (a + 1) i (omega (arith, h)) ∙ ap (λ k. Some (f k)) (omega arith)
