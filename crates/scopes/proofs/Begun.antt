-- Where one stands among the inputs of a scope.
use Rattle.std.proofs.Common.{◌≡◌, Bool, true, false, not, cond, IsTrue, IsFalse, Some, List, [], ◌∷◌, ℤ, replicate, slice_get, refl, ap}
use Rattle.std.proofs.Common.{sym, ◌∙◌, rules}
use Rattle.std.specs.List.{filter}
use Rattle.scopes.specs.Lists.{are_apart, lists_from}
use Rattle.scopes.specs.Scopes.{inputs_from, inputs_left, inputs_of, those_of}
use Rattle.scopes.specs.declared.scope.Scope.{Scope}
use Rattle.scopes.proofs.Steps.{begins, from_first, here_first}

-- the input at which one stands is the first that is left
first_left : (over apart : Bool) (low high : ℤ) (xs : List ℤ) → over ≡ false → (over ≡ false → apart ≡ true → are_apart xs ≡ true) →
    slice_get (cond over [] (cond apart (filter are_apart (lists_from low high xs)) (lists_from low high xs))) 0 ≡ Some xs
first_left true apart low high xs e h = absurd (let P : true ≡ false → ⊥ = λ k. cc in P e)
first_left false false low high xs e h = here_first low high xs
first_left false true low high xs e h =
    let b = begins low high xs in
    ap (λ (xss : List (List ℤ)). slice_get (filter are_apart xss) 0) b.is
    ∙ ap (λ (t : Bool). slice_get (cond t (xs ∷ filter are_apart b.rest) (filter are_apart b.rest)) 0) (h refl refl)

pub here_left : (s : Scope) (over : Bool) (xs ys : List ℤ) → over ≡ false → (over ≡ false → s.apart ≡ true → are_apart xs ≡ true) →
    ys ≡ xs →
    slice_get (inputs_left s over xs) 0 ≡ Some ys
here_left s over xs ys e h same = first_left over s.apart s.low s.high xs e h ∙ ap Some (sym same)

-- from the least values on there are all inputs
pub all_from : (s : Scope) (xs : List ℤ) → xs ≡ replicate s.count s.low → inputs_from s xs ≡ inputs_of s
all_from s xs is = ap (those_of s) (ap (lists_from s.low s.high) is ∙ from_first s.low s.high s.count s.filled)

pub begun : (s : Scope) (more : Bool) (xs ys : List ℤ) → inputs_from s xs ≡ inputs_of s →
    (IsTrue more → inputs_from s xs ≡ inputs_from s ys) →
    (IsFalse more → inputs_from s xs ≡ []) → inputs_left s (not more) ys ≡ inputs_of s
begun s true xs ys all on off = sym (on (search rules)) ∙ all
begun s false xs ys all on off = sym (off (search rules)) ∙ all
