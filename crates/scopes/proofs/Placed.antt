-- The inputs from a place on.
use Rattle.std.proofs.Common.{◌≡◌, ℕ, ◌+◌, ◌-◌, ◌≤◌, zero, suc, Bool, true, ℤ, List, [], ◌∷◌, drop, refl, ap, sym, ◌∙◌, arith}
use Rattle.std.proofs.Common.{if◌then◌else◌}
use Rattle.std.proofs.Math.Seq.{drop-nil}
use Rattle.scopes.specs.Scopes.{inputs_from, inputs_left, inputs_of}
use Rattle.scopes.specs.declared.scope.Scope.{Scope}

-- further on
pub drop_further : (i k m : ℕ) (xs : List (List ℤ)) → m ≡ i + k → drop k (drop i xs) ≡ drop m xs
drop_further zero k m xs e = ap (λ (j : ℕ). drop j xs) (let f : k ≡ m = omega (arith, e) in f)
drop_further (suc i) k zero xs e = absurd (omega (arith, e))
drop_further (suc i) k (suc m) [] e = drop-nil k
drop_further (suc i) k (suc m) (x ∷ xs) e = drop_further i k m xs (omega (arith, e))

-- where none is left behind i of them, none is left behind more
pub nothing_behind : (s : Scope) (over : Bool) (xs : List ℤ) (i n : ℕ) → inputs_left s over xs ≡ drop i (inputs_of s) → over ≡ true →
    i ≤ n → inputs_left s over xs ≡ drop n (inputs_of s)
nothing_behind s over xs i n is past le =
    let none : inputs_left s over xs ≡ [] = ap (λ (b : Bool). if b then [] else inputs_from s xs) past in
    let k : ℕ = n - i in
    let m : n ≡ i + k = omega arith in
    none ∙ sym (drop-nil k) ∙ ap (drop k) (sym none ∙ is) ∙ drop_further i k n (inputs_of s) m

-- one input further
pub one_further : (s : Scope) (left rest : List (List ℤ)) (x : List ℤ) (i : ℕ) → left ≡ drop i (inputs_of s) → left ≡ x ∷ rest →
    rest ≡ drop (i + 1) (inputs_of s)
one_further s left rest x i is step =
    ap (drop 1) (sym step ∙ is) ∙ drop_further i 1 (i + 1) (inputs_of s) refl
