-- The difference of two stores, applied to the first, gives the second.
use Rattle.std.proofs.Common.{◌≡◌, ℤ, Bool, true, false, ◌+◌, List, [], ◌∷◌, ◌++◌, length, append_assoc, if◌then◌else◌, refl, ap, sym}
use Rattle.std.proofs.Common.{◌∙◌}
use Rattle.std.proofs.Common.{arith}
use Rattle.std.specs.List.{fold}
use Rattle.pram_values.specs.Truth.{is_equal}
use Rattle.journal.specs.declared.change.Change.{Change}
use Rattle.journal.specs.Replay.{with_change, with_value}
use Rattle.journal.specs.Changes.{difference, difference_from}
use Rattle.pram_values.proofs.TruthValues.{is_equal-true}

-- behind a beginning
set_behind : (pre old : List ℤ) (x y : ℤ) → with_value (pre ++ x ∷ old) (length pre) y ≡ pre ++ y ∷ old
set_behind [] old x y = refl
set_behind (z ∷ pre) old x y = ap (λ r. z ∷ r) (set_behind pre old x y)

one_longer : (pre : List ℤ) (y : ℤ) → length (pre ++ y ∷ []) ≡ length pre + 1
one_longer [] y = omega arith
one_longer (z ∷ pre) y = let e = one_longer pre y in omega (arith, e)

step_by : (pre old : List ℤ) (x y : ℤ) (ds : List Change) (b : Bool) → is_equal x y ≡ b →
    fold with_change (pre ++ x ∷ old) ((if b then [] else record { cell = length pre; before = x; after = y } ∷ []) ++ ds) ≡
    fold with_change (pre ++ y ∷ old) ds
step_by pre old x y ds true e = ap (λ z. fold with_change (pre ++ z ∷ old) ds) (is_equal-true x y e)
step_by pre old x y ds false e = ap (λ xs. fold with_change xs ds) (set_behind pre old x y)

applied_from : (pre old new : List ℤ) → length new ≡ length old →
    fold with_change (pre ++ old) (difference_from (length pre) old new) ≡ pre ++ new
applied_from pre [] [] h = refl
applied_from pre [] (y ∷ new) h = absurd (omega (arith, h))
applied_from pre (x ∷ old) [] h = absurd (omega (arith, h))
applied_from pre (x ∷ old) (y ∷ new) h =
    step_by pre old x y (difference_from (length pre + 1) old new) (is_equal x y) refl
    ∙ ap (λ k. fold with_change (pre ++ y ∷ old) (difference_from k old new)) (sym (one_longer pre y))
    ∙ ap (λ xs. fold with_change xs (difference_from (length (pre ++ y ∷ [])) old new)) (sym (append_assoc pre (y ∷ []) old))
    ∙ applied_from (pre ++ y ∷ []) old new (omega (arith, h))
    ∙ append_assoc pre (y ∷ []) new

pub applied : (old new : List ℤ) → length new ≡ length old → fold with_change old (difference old new) ≡ new
applied old new h = applied_from [] old new h
