-- Lists beside functions of the items of other lists, and sums over parts of ranges.
use Rattle.std.proofs.Common.{◌≡◌, ℕ, zero, suc, ◌+◌, ◌<◌, ◌≤◌, ◌%◌, List, [], ◌∷◌, ◌++◌, map, Bool, true, false, cond, eqb, refl, ap, ◌∙◌}
use Rattle.std.proofs.Common.{arith}
use Rattle.std.specs.Prelude.{slice_index_or}
use Rattle.std.specs.List.{AllByRecursion, range_with_len, zip}
use Rattle.std.proofs.lemmas.List.FromFn.{get_or-map-range_with_len}
use Rattle.pram_values.specs.Total.{in_class}
use Rattle.superstep_machine.proofs.Numbers.{same_number}
pub use Rattle.std.proofs.lemmas.Simd.{map-map as map_twice}

pub remainder_below : (v p : ℕ) → 1 ≤ p → v % p < p
remainder_below v p h = omega (arith, h)

pub all_by : {A : Type 0} (P : A → Type 0) → ((x : A) → P x) → (xs : List A) → AllByRecursion P xs
all_by P h [] = tt
all_by P h (x ∷ xs) = (h x, all_by P h xs)

-- what holds of each number below k + n holds of each of a range
pub all_below : (P : ℕ → Type 0) (n k : ℕ) → ((x : ℕ) → x < k + n → P x) → AllByRecursion P (range_with_len k n)
all_below P zero k h = tt
all_below P (suc n) k h = (h k (omega arith), all_below P n (k + 1) (λ x l. h x (omega arith)))

pub map_same : {A B : Type 0} (f g : A → B) → ((x : A) → f x ≡ g x) → (xs : List A) → map f xs ≡ map g xs
map_same f g h [] = refl
map_same f g h (x ∷ xs) = ap (λ y. y ∷ map f xs) (h x) ∙ ap (λ ys. g x ∷ ys) (map_same f g h xs)

pub map_itself : {A : Type 0} (xs : List A) → map (λ x. x) xs ≡ xs
map_itself [] = refl
map_itself (x ∷ xs) = ap (λ ys. x ∷ ys) (map_itself xs)

pub map_each : {A B : Type 0} (f g : A → B) (xs : List A) → AllByRecursion (λ x. f x ≡ g x) xs → map f xs ≡ map g xs
map_each f g [] h = refl
map_each f g (x ∷ xs) h = ap (λ y. y ∷ map f xs) h.0 ∙ ap (λ ys. g x ∷ ys) (map_each f g xs h.1)

pub map_joined : {A B : Type 0} (f : A → B) (xs ys : List A) → map f (xs ++ ys) ≡ map f xs ++ map f ys
map_joined f [] ys = refl
map_joined f (x ∷ xs) ys = ap (λ zs. f x ∷ zs) (map_joined f xs ys)

pub zip_map : {A B : Type 0} (f : A → B) (xs : List A) → zip xs (map f xs) ≡ map (λ x. (x, f x)) xs
zip_map f [] = refl
zip_map f (x ∷ xs) = ap (λ ys. (x, f x) ∷ ys) (zip_map f xs)

-- maps of the items of a class agree where the functions agree on the class
pub map_class : {A B : Type 0} (f g : A → B) (class : A → ℕ) (w : ℕ) (xs : List A) → AllByRecursion (λ x. class x ≡ w → f x ≡ g x) xs →
    map f (in_class class w xs) ≡ map g (in_class class w xs)
map_class f g class w [] h = refl
map_class f g class w (x ∷ xs) h = go (map_class f g class w xs h.1) (eqb (class x) w) refl
  where
    go : map f (in_class class w xs) ≡ map g (in_class class w xs) → (b : Bool) → eqb (class x) w ≡ b →
        map f (cond b (x ∷ in_class class w xs) (in_class class w xs)) ≡ map g (cond b (x ∷ in_class class w xs) (in_class class w xs))
    go rest true e = ap (λ y. y ∷ map f (in_class class w xs)) (h.0 (same_number (class x) w e)) ∙ ap (λ ys. g x ∷ ys) rest
    go rest false e = rest

-- item i of a list by numbers below n
pub item_at : {A : Type 0} (f : ℕ → A) (n i : ℕ) (d : A) → i < n → slice_index_or (map f (range_with_len 0 n)) i d ≡ f i
item_at f n i d l = get_or-map-range_with_len f 0 n i i d l (omega arith)
