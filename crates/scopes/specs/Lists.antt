-- Lists of values of an interval, in lexicographic order.
use Rattle.std.specs.Prelude.{◌≡◌, ◌⊎◌, ◌&&◌, ℕ, ◌*◌, ◌-◌, nat_eq, Bool, true, false, not, zero, suc, List, [], ◌∷◌, ◌++◌, ℤ, pos, negsuc}
use Rattle.std.specs.Prelude.{◌+ℤ◌, ◌≤ℤ◌, ◌<ℤ◌, map, length}
use Rattle.std.specs.Int.{int_gap}
use Rattle.std.specs.List.{All, list_any}

-- so many numbers from one on
abbrev pub numbers_from : ℤ → ℕ → List ℤ
numbers_from v zero = []
numbers_from v (suc k) = v ∷ numbers_from (v +ℤ pos 1) k

-- those from low to high
abbrev pub values : (low high : ℤ) → List ℤ
values low high = numbers_from low (int_gap low (high +ℤ pos 1))

-- each of these lists behind each of these values
abbrev pub each_behind : List ℤ → List (List ℤ) → List (List ℤ)
each_behind [] xss = []
each_behind (v ∷ vs) xss = map (λ xs. v ∷ xs) xss ++ each_behind vs xss

-- all lists of so many of these values
abbrev pub lists_of : List ℤ → ℕ → List (List ℤ)
lists_of vs zero = [] ∷ []
lists_of vs (suc k) = each_behind vs (lists_of vs k)

-- those from one of them on
abbrev pub lists_from : (low high : ℤ) → List ℤ → List (List ℤ)
lists_from low high [] = [] ∷ []
lists_from low high (x ∷ xs) =
    map (λ ys. x ∷ ys) (lists_from low high xs) ++ each_behind (values (x +ℤ pos 1) high) (lists_of (values low high) (length xs))

-- each value is from low to high
abbrev pub IsWithin : (low high : ℤ) → ℤ → Type 0
IsWithin low high x = (low ≤ℤ x) × (x ≤ℤ high)

abbrev pub AreWithin : (low high : ℤ) → List ℤ → Type 0
AreWithin low high xs = All (IsWithin low high) xs

-- lexicographic order: at the first place where they differ, the first list has the lesser value
abbrev pub IsBefore : List ℤ → List ℤ → Type 0
IsBefore [] ys = ⊥
IsBefore (x ∷ xs) [] = ⊥
IsBefore (x ∷ xs) (y ∷ ys) = (x <ℤ y) ⊎ ((x ≡ y) × IsBefore xs ys)

-- two values are one
abbrev pub same_value : ℤ → ℤ → Bool
same_value (pos a) (pos b) = nat_eq a b
same_value (pos a) (negsuc b) = false
same_value (negsuc a) (pos b) = false
same_value (negsuc a) (negsuc b) = nat_eq a b

-- no value stands twice
abbrev pub are_apart : List ℤ → Bool
are_apart [] = true
are_apart (x ∷ xs) = not (list_any (λ v. same_value v x) xs) && are_apart xs

-- ---- how many there are

-- n, one fewer, and so on, k numbers multiplied
abbrev pub falling : (n k : ℕ) → ℕ
falling n zero = 1
falling n (suc k) = falling n k * (n - k)

abbrev pub factorial : ℕ → ℕ
factorial zero = 1
factorial (suc n) = suc n * factorial n
