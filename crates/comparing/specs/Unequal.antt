-- Where two lists of values differ.
use Rattle.std.specs.Prelude.{ℕ, ◌+◌, ℤ, Bool, true, false, not, List, Option, Some, None, map, slice_get}
use Rattle.std.specs.List.{filter, range_with_len}
use Rattle.std.specs.Ordering.{int_eq}
use Rattle.comparing.specs.declared.unequal.Beside.{Beside}

-- one value, or none in either
abbrev pub same_value : Option ℤ → Option ℤ → Bool
same_value None None = true
same_value None (Some y) = false
same_value (Some x) None = false
same_value (Some x) (Some y) = int_eq x y

-- what two lists have at a place, counted from s in the one and from t in the other
abbrev pub beside : List ℤ → ℕ → List ℤ → ℕ → ℕ → Beside
beside xs s ys t k = record { place = k; first = slice_get xs (s + k); second = slice_get ys (t + k) }

abbrev pub is_unequal : Beside → Bool
is_unequal b = not (same_value b.first b.second)

-- those of the first n places at which they differ, in order
abbrev pub unequals : List ℤ → ℕ → List ℤ → ℕ → (n : ℕ) → List Beside
unequals xs s ys t n = filter is_unequal (map (beside xs s ys t) (range_with_len 0 n))
