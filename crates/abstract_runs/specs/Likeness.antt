-- What is known twice: the same, or of the same processors.
use Rattle.std.specs.Prelude.{◌≡◌, List, [], ◌∷◌, length}
use Rattle.abstract_runs.specs.declared.standing.Member.{Member}
use Rattle.abstract_runs.specs.declared.standing.Standing.{Standing}

-- both say the same of a run
pub record IsSame (a b : Standing) : Type 0 where
  pub least : a.least ≡ b.least
  pub most : a.most ≡ b.most
  pub uniforms : a.uniforms.items ≡ b.uniforms.items
  pub cells : a.cells.items ≡ b.cells.items
  pub origins : a.origins.items ≡ b.origins.items

-- a processor of the same index, with as many locals
pub record IsLike (a b : Member) : Type 0 where
  pub index : a.index ≡ b.index
  pub locals : length a.locals.items ≡ length b.locals.items

-- processor by processor
abbrev pub AreLike : List Member → List Member → Type 0
AreLike [] [] = Unit {0}
AreLike (a ∷ team) (b ∷ other) = IsLike a b × AreLike team other
AreLike team other = ⊥
