-- Values that are not far from where they came from.
use Rattle.std.specs.Prelude.{ℕ, List, [], ◌∷◌, ℤ, pos, ◌+ℤ◌, ◌≤ℤ◌}
use Rattle.intervals.specs.declared.interval.Interval.{Interval}
use Rattle.all_inputs.specs.Overall.{Cover}

-- two numbers, at most so far from one another
pub record IsNear (far : ℕ) (o z : ℤ) : Type 0 where
  pub least : o ≤ℤ (z +ℤ pos far)
  pub most : z ≤ℤ (o +ℤ pos far)

-- number by number
abbrev pub AreEachNear : ℕ → List ℤ → List ℤ → Type 0
AreEachNear far [] [] = Unit {0}
AreEachNear far (o ∷ os) (z ∷ zs) = IsNear far o z × AreEachNear far os zs
AreEachNear far os zs = ⊥

-- each value is at most so far from some number of its own interval
pub record AreNear (far : ℕ) (origins : List Interval) (zs : List ℤ) : Type 0 where
  pub numbers : List ℤ
  pub from : Cover origins numbers
  pub near : AreEachNear far numbers zs
