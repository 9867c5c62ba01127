-- Lists of two kinds, item by item, and lists that grow at their end.
use Rattle.std.proofs.Common.{◌≡◌, ℕ, zero, suc, List, [], ◌∷◌, ◌++◌, length, map, Some, refl, ap}
use Rattle.std.proofs.Common.{subst, arith}
use Rattle.std.specs.Prelude.{slice_get}
use Rattle.pram_model.proofs.Truths.{unsome}
use Rattle.workers.specs.Crews.{Pairwise}

module _ {A B : Type 0} (P : A → B → Type 0) where
  -- one more of each
  pub pairs_end : (xs : List A) (ys : List B) (x : A) (y : B) → Pairwise P xs ys → P x y → Pairwise P (xs ++ x ∷ []) (ys ++ y ∷ [])
  pairs_end [] [] x y all last = (last, tt)
  pairs_end [] (z ∷ ys) x y all last = absurd all
  pairs_end (z ∷ xs) [] x y all last = absurd all
  pairs_end (v ∷ xs) (w ∷ ys) x y all last = (all.0, pairs_end xs ys x y all.1 last)

  pub pairs_long : (xs : List A) (ys : List B) → Pairwise P xs ys → length ys ≡ length xs
  pairs_long [] [] all = refl
  pairs_long [] (y ∷ ys) all = absurd all
  pairs_long (x ∷ xs) [] all = absurd all
  pairs_long (x ∷ xs) (y ∷ ys) all = ap suc (pairs_long xs ys all.1)

  -- the one that goes with an item
  pub pair_at : (xs : List A) (ys : List B) (k : ℕ) (y : B) → Pairwise P xs ys → slice_get ys k ≡ Some y →
      (x : A) × (slice_get xs k ≡ Some x) × P x y
  pair_at [] [] k y all e = absurd (cc)
  pair_at [] (z ∷ ys) k y all e = absurd all
  pair_at (x ∷ xs) [] k y all e = absurd all
  pair_at (x ∷ xs) (z ∷ ys) zero y all e = (x, refl, subst (P x) (unsome z y e) all.0)
  pair_at (x ∷ xs) (z ∷ ys) (suc k) y all e = pair_at xs ys k y all.1 e

  -- by place
  pub pairs_by : (xs : List A) (ys : List B) → length ys ≡ length xs →
      ((k : ℕ) (x : A) (y : B) → slice_get xs k ≡ Some x → slice_get ys k ≡ Some y → P x y) → Pairwise P xs ys
  pairs_by [] [] same each = tt
  pairs_by [] (y ∷ ys) same each = absurd (omega (arith, same))
  pairs_by (x ∷ xs) [] same each = absurd (omega (arith, same))
  pairs_by (x ∷ xs) (y ∷ ys) same each = (each 0 x y refl refl, pairs_by xs ys (omega (arith, same)) (λ k v w e f. each (suc k) v w e f))

module _ {A : Type 0} where
  pub get_front : (xs ys : List A) (k : ℕ) (x : A) → slice_get xs k ≡ Some x → slice_get (xs ++ ys) k ≡ Some x
  get_front [] ys k x e = absurd (cc)
  get_front (z ∷ xs) ys zero x e = e
  get_front (z ∷ xs) ys (suc k) x e = get_front xs ys k x e

  -- what a mapped list has at a place
  pub mapped_at : {B : Type 0} (f : A → B) (xs : List A) (k : ℕ) (y : B) → slice_get (map f xs) k ≡ Some y →
      (x : A) × (slice_get xs k ≡ Some x) × (f x ≡ y)
  mapped_at f [] k y e = absurd (cc)
  mapped_at f (x ∷ xs) zero y e = (x, refl, unsome (f x) y e)
  mapped_at f (x ∷ xs) (suc k) y e = mapped_at f xs k y e
