-- In an order no place stands twice.
use Rattle.std.proofs.Common.{◌≡◌, ◌≢◌, ◌⊎◌, ◌∙◌, ◌<◌, ℕ, ℤ, List, length, subst, get_or, ap, sym, refl, arith, inl, inr}
use Rattle.std.proofs.lemmas.Bool.{cases_eq}
use Rattle.std.proofs.lemmas.List.{get_or_default, length-map}
use Rattle.std.proofs.lemmas.List.Edits.{Swapped, swapped_from_swap, length-swap}
use Rattle.std.proofs.lemmas.List.FromFn.{get_or-range_with_len, length-range_with_len}
use Rattle.std.proofs.lemmas.List.Sorted.{All-permutation, Contains-permutation}
use Rattle.std.proofs.lemmas.List.Sorted.{IsPermutation-keeps, IsPermutation-map, length_permutation}
use Rattle.std.specs.List.{All, Contains, swap}
use Rattle.std.specs.List.Sorted.{IsPermutation}
use Rattle.drawn_kinds.specs.Orders.{IsOrder, places}
use Rattle.drawn_kinds.specs.Kinds.{IsPermuted, node, nodes}

-- at two places stand two numbers
abbrev pub AreApart : List ℕ → Type 0
AreApart xs = (i j : ℕ) → i < length xs → j < length xs → get_or xs i 0 ≡ get_or xs j 0 → i ≡ j

places_apart : (n : ℕ) → AreApart (places n)
places_apart n i j li lj e =
    let count = length-range_with_len 0 n in
    let first = get_or-range_with_len 0 n i 0 (omega (arith, count, li)) in
    let second = get_or-range_with_len 0 n j 0 (omega (arith, count, lj)) in
    omega (arith, first, second, e)

-- where what stands at a place after an exchange stood before
record Came (a b m k : ℕ) (xs ys : List ℕ) : Type 0 where
  within : k < length xs
  is : get_or ys m 0 ≡ get_or xs k 0
  from : ((m ≡ a) × (k ≡ b)) ⊎ (((m ≡ b) × (k ≡ a)) ⊎ ((m ≢ a) × (m ≢ b) × (k ≡ m)))

came : (xs : List ℕ) (a b m : ℕ) → a < length xs → b < length xs → m < length xs → (k : ℕ) × Came a b m k xs (swap xs a b)
came xs a b m la lb lm = by (swapped_from_swap xs (swap xs a b) a b 0 la lb refl) (cases_eq m a) (cases_eq m b)
  where
    by : Swapped (λ i. get_or xs i 0) (λ i. get_or (swap xs a b) i 0) a b → (m ≡ a) ⊎ (m ≡ a → ⊥) → (m ≡ b) ⊎ (m ≡ b → ⊥) →
        (k : ℕ) × Came a b m k xs (swap xs a b)
    by s (inl e) _ = (b, record { within = lb; is = ap (λ i. get_or (swap xs a b) i 0) e ∙ s.0; from = inl (e, refl) })
    by s (inr n) (inl e) = (a, record { within = la; is = ap (λ i. get_or (swap xs a b) i 0) e ∙ s.1; from = inr (inl (e, refl)) })
    by s (inr n) (inr o) = (m, record { within = lm; is = s.2 m n o; from = inr (inr (n, o, refl)) })

swap_apart : (xs : List ℕ) (a b : ℕ) → a < length xs → b < length xs → AreApart xs → AreApart (swap xs a b)
swap_apart xs a b la lb h i j li lj e =
    let count = length-swap xs a b in
    by (came xs a b i la lb (omega (arith, count, li))) (came xs a b j la lb (omega (arith, count, lj)))
  where
    by : (k : ℕ) × Came a b i k xs (swap xs a b) → (k : ℕ) × Came a b j k xs (swap xs a b) → i ≡ j
    by (k, p) (l, q) =
        let same : k ≡ l = h k l p.within q.within (sym p.is ∙ e ∙ q.is) in
        omega (arith, same, p.from, q.from)

pub order_apart : (n : ℕ) (order : List ℕ) → IsOrder n order → AreApart order
order_apart n order is = IsPermutation-keeps (places n) AreApart (places_apart n) swap_apart order is

pub order_count : (n : ℕ) (order : List ℕ) → IsOrder n order → length order ≡ n
order_count n order is = length_permutation (places n) order is ∙ length-range_with_len 0 n

-- each is one of the places
pub order_below : (n : ℕ) (order : List ℕ) (k : ℕ) → IsOrder n order → k < length order → get_or order k 0 < n
order_below n order k is l = All-permutation (λ x. x < n) (places n) order is all k 0 l
  where
    all : All (λ x. x < n) (places n)
    all i d li =
        let count = length-range_with_len 0 n in
        let at = get_or-range_with_len 0 n i d (omega (arith, count, li)) in omega (arith, at, count, li)

-- and each of these stands somewhere
pub order_holds : (n : ℕ) (order : List ℕ) (x : ℕ) → IsOrder n order → x < n → (k : ℕ) × (k < length order) × (get_or order k 0 ≡ x)
order_holds n order x is l = by (Contains-permutation (places n) order x is held)
  where
    held : Contains (places n) x
    held = (x, omega (arith, length-range_with_len 0 n, l), get_or-range_with_len 0 n x x l ∙ omega arith)

    by : Contains order x → (k : ℕ) × (k < length order) × (get_or order k 0 ≡ x)
    by (k, lk, e) = (k, lk, get_or_default order k 0 x lk ∙ e)

-- the nodes of an order are each of the numbers once
pub permuted : (n : ℕ) (order : List ℕ) (values : List ℤ) → IsOrder n order → values ≡ nodes 1 order → IsPermuted values
permuted n order values is same =
    let count : length values ≡ n = ap length same ∙ length-map order (node 1) ∙ order_count n order is in
    subst (λ m. IsPermutation (nodes 1 (places m)) values) (sym count)
    (subst (IsPermutation (nodes 1 (places n))) (sym same) (IsPermutation-map (node 1) (places n) order is))
