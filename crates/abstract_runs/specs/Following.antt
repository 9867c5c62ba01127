-- What is known later in a run, beside what was known before.
use Rattle.std.specs.Prelude.{◌≡◌, ◌≤◌, length}
use Rattle.abstract_runs.specs.declared.standing.Standing.{Standing}

-- both have an interval for as many values
pub record IsSameSize (a b : Standing) : Type 0 where
  pub uniforms : length a.uniforms.items ≡ length b.uniforms.items
  pub cells : length a.cells.items ≡ length b.cells.items
  pub origins : length a.origins.items ≡ length b.origins.items

-- no fewer statements have run, and there are as many values
pub record Follows (old new : Standing) : Type 0 where
  pub least : old.least ≤ new.least
  pub most : old.most ≤ new.most
  pub size : IsSameSize old new
