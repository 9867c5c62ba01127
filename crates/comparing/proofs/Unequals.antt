-- The places at which two lists differ, from one on.
use Rattle.std.proofs.Common.{◌≡◌, ℕ, suc, ◌+◌, ◌-◌, ◌<◌, ◌≤◌, Bool, true, false, cond, ℤ, List, ◌∷◌, Some, None, map, ap, ◌∙◌, arith}
use Rattle.std.specs.List.{filter, range_with_len}
use Rattle.std.specs.Prelude.{slice_get}
use Rattle.comparing.specs.declared.unequal.Beside.{Beside}
use Rattle.comparing.specs.Unequal.{beside, is_unequal}

-- those of n places from k on
abbrev pub unequals_from : List ℤ → ℕ → List ℤ → ℕ → (k n : ℕ) → List Beside
unequals_from xs s ys t k n = filter is_unequal (map (beside xs s ys t) (range_with_len k n))

-- there is one place more
more : (k n : ℕ) → k < n → n - k ≡ suc (n - (k + 1))
more k n lt = omega arith

pub unequal_here : (xs : List ℤ) (s : ℕ) (ys : List ℤ) (t k n : ℕ) (b : Beside) → k < n → beside xs s ys t k ≡ b → is_unequal b ≡ true →
    slice_get (unequals_from xs s ys t k (n - k)) 0 ≡ Some b
unequal_here xs s ys t k n b lt is differs =
    let rest = unequals_from xs s ys t (k + 1) (n - (k + 1)) in
    ap (λ m. slice_get (unequals_from xs s ys t k m) 0) (more k n lt)
    ∙ ap (λ (c : Beside). slice_get (cond (is_unequal c) (c ∷ rest) rest) 0) is
    ∙ ap (λ (v : Bool). slice_get (cond v (b ∷ rest) rest) 0) differs

pub equal_here : (xs : List ℤ) (s : ℕ) (ys : List ℤ) (t k n : ℕ) (b : Beside) → k < n → beside xs s ys t k ≡ b → is_unequal b ≡ false →
    slice_get (unequals_from xs s ys t k (n - k)) 0 ≡ slice_get (unequals_from xs s ys t (k + 1) (n - (k + 1))) 0
equal_here xs s ys t k n b lt is same =
    let rest = unequals_from xs s ys t (k + 1) (n - (k + 1)) in
    ap (λ m. slice_get (unequals_from xs s ys t k m) 0) (more k n lt)
    ∙ ap (λ (c : Beside). slice_get (cond (is_unequal c) (c ∷ rest) rest) 0) is
    ∙ ap (λ (v : Bool). slice_get (cond v (b ∷ rest) rest) 0) same

pub none_left : (xs : List ℤ) (s : ℕ) (ys : List ℤ) (t k n : ℕ) → n ≤ k → slice_get (unequals_from xs s ys t k (n - k)) 0 ≡ None
none_left xs s ys t k n le =
    let over : n - k ≡ 0 = omega arith in
    ap (λ m. slice_get (unequals_from xs s ys t k m) 0) over
