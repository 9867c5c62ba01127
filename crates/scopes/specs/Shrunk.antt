-- Inputs that get smaller while the same goes wrong.
use Rattle.std.specs.Prelude.{◌≡◌, ℕ, Bool, Option, Some, None, IsSomeAnd, List, [], ◌∷◌, ℤ, pos, ◌-ℤ◌, int_div, nat_abs, map, length}
use Rattle.std.specs.Prelude.{slice_index_or, slice_set, if◌then◌else◌}
use Rattle.std.specs.Int.{int_signum}
use Rattle.std.specs.List.{find, flat_map, range_with_len, sum_by}
use Rattle.pram_check.specs.Checked.{Checked}
use Rattle.pram_values.specs.Truth.{is_nonzero}
use Rattle.scopes.specs.declared.scope.Scope.{Scope}
use Rattle.scopes.specs.declared.specification.Specification.{Specification}
use Rattle.scopes.specs.declared.wrong.Wrong.TheVariants.{Faults, GoesOn, Fails}
use Rattle.scopes.specs.Firsts.{Met}
use Rattle.scopes.specs.Found.{Found}
use Rattle.scopes.specs.Runs.{fault_of, verdict_on}
use Rattle.scopes.specs.Wrong.{goes_wrong}

-- ---- one list

-- values nearer to 0, the nearest first: 0, the half, rounded towards 0, and the next one
abbrev pub nearer : ℤ → List ℤ
nearer x = if is_nonzero x then pos 0 ∷ (int_div x (pos 2) ∷ ((x -ℤ int_signum x) ∷ [])) else []

-- a list with one of these in the place of the value at k
abbrev pub nearer_at : List ℤ → ℕ → List (List ℤ)
nearer_at xs k = map (slice_set xs k) (nearer (slice_index_or xs k (pos 0)))

-- the lists that are tried for a list: those of the first place, those of the second, and so on
abbrev pub smaller : List ℤ → List (List ℤ)
smaller xs = flat_map (nearer_at xs) (range_with_len 0 (length xs))

-- A list shrinks to itself where none of the smaller ones is wanted; else to that to which the first one that is wanted shrinks.
pub data ShrinksTo (wanted : List ℤ → Bool) : List ℤ → List ℤ → Type 0 where
  Stays : (xs : List ℤ) → find wanted (smaller xs) ≡ None → ShrinksTo wanted xs xs
  Shrinks : (xs ys zs : List ℤ) → find wanted (smaller xs) ≡ Some ys → ShrinksTo wanted ys zs → ShrinksTo wanted xs zs

-- how far the values are from 0, all together
abbrev pub distance : List ℤ → ℕ
distance xs = sum_by nat_abs xs

-- ---- findings

-- A fault is told with what its input shrinks to as long as one of its kind at its line is met, and is that of the run on this.
pub record IsShrunkMet (scope : Scope) (s : Specification) (p : Checked) (n : ℕ) (m q : Met) : Type 0 where
  pub input : ShrinksTo (goes_wrong scope s p n (Faults m.fault)) m.input q.input
  pub fault : fault_of (verdict_on p n q.input) ≡ Some q.fault

-- each fault is told so, in the same order
abbrev pub AreShrunkMet : Scope → Specification → Checked → ℕ → List Met → List Met → Type 0
AreShrunkMet scope s p n [] qs = qs ≡ []
AreShrunkMet scope s p n (m ∷ ms) [] = ⊥
AreShrunkMet scope s p n (m ∷ ms) (q ∷ qs) = IsShrunkMet scope s p n m q × AreShrunkMet scope s p n ms qs

-- where an input is told, what it shrinks to is told in its place
abbrev pub IsShrunkInput : (wanted : List ℤ → Bool) → Option (List ℤ) → Option (List ℤ) → Type 0
IsShrunkInput wanted None told = told ≡ None
IsShrunkInput wanted (Some xs) told = IsSomeAnd told (ShrinksTo wanted xs)

-- the same is told, with smaller inputs
pub record AreShrunk (scope : Scope) (s : Specification) (p : Checked) (n : ℕ) (f g : Found) : Type 0 where
  pub same : g ≡ record f { faults = g.faults; goes_on_at = g.goes_on_at; fails_at = g.fails_at }
  pub faults : AreShrunkMet scope s p n f.faults g.faults
  pub goes_on : IsShrunkInput (goes_wrong scope s p n GoesOn) f.goes_on_at g.goes_on_at
  pub fails : IsShrunkInput (goes_wrong scope s p n Fails) f.fails_at g.fails_at
