-- What is known of a run between two statements, and the states that it stands for.
use Rattle.std.specs.Prelude.{◌≡◌, ◌≤◌, ◌+◌, ℕ, List, [], ◌∷◌}
use Rattle.pram_meaning.specs.Store as store
use Rattle.pram_meaning.specs.Store.{no_team}
use Rattle.abstract_runs.specs.declared.standing.Member.{Member}
use Rattle.abstract_runs.specs.declared.standing.Standing.{Standing}
use Rattle.all_inputs.specs.Overall.{Cover}
use Rattle.abstract_runs.specs.Near.{AreNear}

-- the same processor, whose locals lie in what is known of them
pub record IsMemberOf (g : store.Member) (known : Member) : Type 0 where
  pub index : g.index ≡ known.index
  pub locals : Cover known.locals.items g.locals

-- processor by processor
abbrev pub AreMembersOf : List store.Member → List Member → Type 0
AreMembersOf [] [] = Unit {0}
AreMembersOf (g ∷ gs) (known ∷ more) = IsMemberOf g known × AreMembersOf gs more
AreMembersOf gs known = ⊥

-- what is known of all but the processors holds of a state: each uniform variable is at most as far from its origin as statements have run
pub record IsKnownAs (known : Standing) (m : store.State) : Type 0 where
  pub least : known.least ≤ m.count
  pub most : m.count ≤ known.most
  pub uniforms : Cover known.uniforms.items m.uniforms
  pub cells : Cover known.cells.items m.cells
  pub near : AreNear m.count known.origins.items m.uniforms

-- one statement has begun since the uniform variables were so near
pub record HasBegun (known : Standing) (m : store.State) : Type 0 where
  pub before : ℕ
  pub one_more : m.count ≡ before + 1
  pub near : AreNear before known.origins.items m.uniforms

-- a state outside pardo for which this stands
pub record StandsFor (known : Standing) (m : store.State) : Type 0 where
  pub known_as : IsKnownAs known m
  pub team : m.team ≡ no_team

-- a state inside pardo
pub record StandsWith (known : Standing) (team : List Member) (m : store.State) : Type 0 where
  pub known_as : IsKnownAs known m
  pub members : AreMembersOf m.team team
