-- Sums over the classes of a list are the sum over the list.
use Rattle.std.proofs.Common.{◌≡◌, ℕ, zero, suc, ◌+◌, ◌<◌, ◌≤◌, List, [], ◌∷◌, ◌++◌, map, Bool, true, false, cond, eqb, refl, sym, ap, ◌∙◌}
use Rattle.std.proofs.Common.{arith, ⊎_elim, ◌⊎◌}
use Rattle.std.proofs.lemmas.Bool.{ne_eqb}
use Rattle.std.proofs.lemmas.Bool.Decides.{eqb_tells}
use Rattle.std.specs.List.{AllByRecursion, filter, range_with_len}
use Rattle.pram_values.specs.Total.{IsMonoid, total, in_class}

-- sums of equal terms
pub total_same : {A M : Type 0} (e : M) (op : M → M → M) (f g : A → M) → ((x : A) → f x ≡ g x) → (xs : List A) →
    total e op f xs ≡ total e op g xs
total_same e op f g h [] = refl
total_same e op f g h (x ∷ xs) = ap (λ a. op a (total e op f xs)) (h x) ∙ ap (op (g x)) (total_same e op f g h xs)

-- sums of terms that are equal on a list
pub total_each : {A M : Type 0} (e : M) (op : M → M → M) (f g : A → M) (xs : List A) → AllByRecursion (λ x. f x ≡ g x) xs →
    total e op f xs ≡ total e op g xs
total_each e op f g [] h = refl
total_each e op f g (x ∷ xs) h = ap (λ a. op a (total e op f xs)) h.0 ∙ ap (op (g x)) (total_each e op f g xs h.1)

pub total_map : {A B M : Type 0} (e : M) (op : M → M → M) (f : B → M) (g : A → B) (xs : List A) →
    total e op f (map g xs) ≡ total e op (λ x. f (g x)) xs
total_map e op f g [] = refl
total_map e op f g (x ∷ xs) = ap (op (f (g x))) (total_map e op f g xs)

-- sums of terms that are equal within a range
pub total_within : {M : Type 0} (e : M) (op : M → M → M) (f g : ℕ → M) (n k : ℕ) → ((w : ℕ) → w < k + n → f w ≡ g w) →
    total e op f (range_with_len k n) ≡ total e op g (range_with_len k n)
total_within e op f g zero k h = refl
total_within e op f g (suc n) k h =
    ap (λ a. op a (total e op f (range_with_len (k + 1) n))) (h k (omega arith))
    ∙ ap (op (g k)) (total_within e op f g n (k + 1) (λ w l. h w (omega arith)))

module _ {M : Type 0} (e : M) (op : M → M → M) (m : IsMonoid M e op) where
  pub neutral_right : (x : M) → op x e ≡ x
  neutral_right x = m.commutative x e ∙ m.neutral x

  -- (a b) (c d) is (a c) (b d)
  pub middle : (a b c d : M) → op (op a b) (op c d) ≡ op (op a c) (op b d)
  middle a b c d = m.associative a b (op c d) ∙ ap (op a) (sym (m.associative b c d) ∙ ap (λ x. op x d) (m.commutative b c)
      ∙ m.associative c b d) ∙ sym (m.associative a c (op b d))

  pub total_none : {A : Type 0} (f : A → M) → ((x : A) → f x ≡ e) → (xs : List A) → total e op f xs ≡ e
  total_none f h [] = refl
  total_none f h (x ∷ xs) = ap (λ a. op a (total e op f xs)) (h x) ∙ m.neutral (total e op f xs) ∙ total_none f h xs

  pub total_both : {A : Type 0} (f g : A → M) (xs : List A) → total e op (λ x. op (f x) (g x)) xs ≡ op (total e op f xs) (total e op g xs)
  total_both f g [] = sym (m.neutral e)
  total_both f g (x ∷ xs) = ap (op (op (f x) (g x))) (total_both f g xs) ∙ middle (f x) (g x) (total e op f xs) (total e op g xs)

  pub total_joined : {A : Type 0} (f : A → M) (xs ys : List A) → total e op f (xs ++ ys) ≡ op (total e op f xs) (total e op f ys)
  total_joined f [] ys = sym (m.neutral (total e op f ys))
  total_joined f (x ∷ xs) ys = ap (op (f x)) (total_joined f xs ys) ∙ sym (m.associative (f x) (total e op f xs) (total e op f ys))

  -- sums in two lists, in either order
  pub total_swap : {A B : Type 0} (f : A → B → M) (xs : List A) (ys : List B) →
      total e op (λ x. total e op (f x) ys) xs ≡ total e op (λ y. total e op (λ x. f x y) xs) ys
  total_swap f [] ys = sym (total_none (λ y. e) (λ y. refl) ys)
  total_swap f (x ∷ xs) ys = ap (op (total e op (f x) ys)) (total_swap f xs ys)
      ∙ sym (total_both (f x) (λ y. total e op (λ x. f x y) xs) ys)

  -- a term of a range that stands alone
  pub total_past : (a : M) (x n k : ℕ) → x < k → total e op (λ w. cond (eqb x w) a e) (range_with_len k n) ≡ e
  total_past a x zero k h = refl
  total_past a x (suc n) k h =
      let apart : eqb x k ≡ false = ne_eqb x k (omega arith) in
      let r = range_with_len (k + 1) n in
      ap (λ b. op (cond b a e) (total e op (λ w. cond (eqb x w) a e) r)) apart ∙ m.neutral (total e op (λ w. cond (eqb x w) a e) r)
      ∙ total_past a x n (k + 1) (omega arith)

  pub total_at : (a : M) (x n k : ℕ) → k ≤ x → x < k + n → total e op (λ w. cond (eqb x w) a e) (range_with_len k n) ≡ a
  total_at a x zero k low high = absurd (omega arith)
  total_at a x (suc n) k low high =
      let r = range_with_len (k + 1) n in
      ⊎_elim
      (λ here. ap (λ b. op (cond b a e) (total e op (λ w. cond (eqb x w) a e) r)) here.0
      ∙ ap (op a) (total_past a x n (k + 1) (omega arith)) ∙ neutral_right a)
      (λ on. ap (λ b. op (cond b a e) (total e op (λ w. cond (eqb x w) a e) r)) on.0 ∙ m.neutral (total e op (λ w. cond (eqb x w) a e) r)
      ∙ total_at a x n (k + 1) (omega arith) (omega arith))
      (eqb_tells x k)

  total_cond : {A : Type 0} (f : A → M) (x : A) (xs : List A) (b : Bool) → total e op f (cond b (x ∷ xs) xs) ≡ op (cond b (f x) e)
      (total e op f xs)
  total_cond f x xs true = refl
  total_cond f x xs false = sym (m.neutral (total e op f xs))

  -- each item is in one of the p classes
  pub total_parts : {A : Type 0} (f : A → M) (class : A → ℕ) (p : ℕ) (xs : List A) → AllByRecursion (λ x. class x < p) xs →
      total e op (λ w. total e op f (in_class class w xs)) (range_with_len 0 p) ≡ total e op f xs
  total_parts f class p [] h = total_none (λ w. e) (λ w. refl) (range_with_len 0 p)
  total_parts f class p (x ∷ xs) h =
      let part = λ (w : ℕ). in_class class w xs in
      total_same e op (λ w. total e op f (cond (eqb (class x) w) (x ∷ part w) (part w)))
      (λ w. op (cond (eqb (class x) w) (f x) e) (total e op f (part w))) (λ w. total_cond f x (part w) (eqb (class x) w))
      (range_with_len 0 p)
      ∙ total_both (λ w. cond (eqb (class x) w) (f x) e) (λ w. total e op f (part w)) (range_with_len 0 p)
      ∙ ap (λ a. op a (total e op (λ w. total e op f (part w)) (range_with_len 0 p))) (total_at (f x) (class x) p 0 (omega arith) (let l =
      h.0 in omega arith))
      ∙ ap (op (f x)) (total_parts f class p xs h.1)

-- the same term at each place, in a monoid where twice is once
pub total_again : {M : Type 0} (e : M) (op : M → M → M) → IsMonoid M e op → (x : M) → op x x ≡ x → (n k : ℕ) → total e op (λ w. x)
    (range_with_len k (suc n)) ≡ x
total_again e op m x h zero k = neutral_right e op m x
total_again e op m x h (suc n) k = ap (op x) (total_again e op m x h n (k + 1)) ∙ h
