-- The values of each declaration's cells, declaration by declaration.
use Rattle.std.proofs.Common.{◌≡◌, ℕ, zero, suc, ◌+◌, ◌<◌, ◌≤◌, List, [], ◌∷◌, ◌++◌, ℤ, pos, length, take, drop, IfSome, sym, subst, arith}
use Rattle.std.specs.Prelude.{slice_get, slice_index_or}
use Rattle.std.specs.List.{AllByRecursion}
use Rattle.std.proofs.lemmas.List.{drop-drop}
use Rattle.pram_model.specs.Layout.{SharedEntry, size, total_size}
use Rattle.intervals.specs.declared.interval.Interval.{Interval}
use Rattle.intervals.specs.Intervals.{IsIn}
use Rattle.all_inputs.specs.Overall.{Hold}

-- what holds of each value at these places holds of that part of the list
pub all_taken : (P : ℤ → Type 0) (first n : ℕ) (zs : List ℤ) →
    ((c : ℕ) → first ≤ c → c < first + n → P (slice_index_or zs c (pos 0))) → AllByRecursion P (take n (drop first zs))
all_taken P zero zero zs h = tt
all_taken P zero (suc n) [] h = tt
all_taken P zero (suc n) (z ∷ zs) h =
    (h 0 (omega arith) (omega arith), all_taken P zero n zs (λ c low high. h (suc c) (omega arith) (omega (arith, high))))
all_taken P (suc first) zero [] h = tt
all_taken P (suc first) (suc n) [] h = tt
all_taken P (suc first) n (z ∷ zs) h =
    all_taken P first n zs (λ c low high. h (suc c) (omega (arith, low)) (omega (arith, high)))

pub none_taken : (P : ℤ → Type 0) (n : ℕ) (zs : List ℤ) → n ≡ 0 → AllByRecursion P (take n zs)
none_taken P n zs none = subst (λ n. AllByRecursion P (take n zs)) (sym none) tt

-- one declaration more
hold_suc : (es : List SharedEntry) (k : ℕ) (is : List Interval) (i : Interval) (n : ℕ) (memory : List ℤ) → k < length es →
    IfSome (slice_get es k) (λ e. n ≡ size e.bounds) → Hold (take k es) is memory →
    AllByRecursion (λ z. IsIn z i) (take n (drop (total_size (take k es)) memory)) → Hold (take (suc k) es) (is ++ i ∷ []) memory
hold_suc [] k is i n memory below same h g = absurd (omega (arith, below))
hold_suc (e ∷ es) zero [] i n memory below same h g = (subst (λ n. AllByRecursion (λ z. IsIn z i) (take n memory)) same g, tt)
hold_suc (e ∷ es) zero (x ∷ is) i n memory below same h g = absurd h
hold_suc (e ∷ es) (suc k) [] i n memory below same h g = absurd h
hold_suc (e ∷ es) (suc k) (x ∷ is) i n memory below same h g = (
  h.0,
  hold_suc es k is i n (drop (size e.bounds) memory) (omega (arith, below)) same h.1
      (subst (λ zs. AllByRecursion (λ z. IsIn z i) (take n zs)) (sym (drop-drop (total_size (take k es)) (size e.bounds) memory)) g),
)

size_suc : (es : List SharedEntry) (k n : ℕ) → k < length es → IfSome (slice_get es k) (λ e. n ≡ size e.bounds) →
    total_size (take (suc k) es) ≡ total_size (take k es) + n
size_suc [] k n below same = absurd (omega (arith, below))
size_suc (e ∷ es) zero n below same = omega (arith, same)
size_suc (e ∷ es) (suc k) n below same = let h = size_suc es k n (omega (arith, below)) same in omega (arith, h)

next_is : (k : ℕ) → suc k ≡ k + 1
next_is k = omega arith

pub hold_next : (es : List SharedEntry) (k : ℕ) (is : List Interval) (i : Interval) (n : ℕ) (memory : List ℤ) → k < length es →
    IfSome (slice_get es k) (λ e. n ≡ size e.bounds) → Hold (take k es) is memory →
    AllByRecursion (λ z. IsIn z i) (take n (drop (total_size (take k es)) memory)) → Hold (take (k + 1) es) (is ++ i ∷ []) memory
hold_next es k is i n memory below same h g =
    subst (λ k. Hold (take k es) (is ++ i ∷ []) memory) (next_is k) (hold_suc es k is i n memory below same h g)

-- where the next one's cells begin
pub size_next : (es : List SharedEntry) (k n : ℕ) → k < length es → IfSome (slice_get es k) (λ e. n ≡ size e.bounds) →
    total_size (take (k + 1) es) ≡ total_size (take k es) + n
size_next es k n below same = subst (λ j. total_size (take j es) ≡ total_size (take k es) + n) (next_is k) (size_suc es k n below same)

-- the first ones have no more cells than all
pub size_part : (es : List SharedEntry) (k : ℕ) → total_size (take k es) ≤ total_size es
size_part [] zero = omega arith
size_part [] (suc k) = omega arith
size_part (e ∷ es) zero = omega arith
size_part (e ∷ es) (suc k) = let h = size_part es k in omega (arith, h)
