-- What is known of the processors of a set, beside what is known of all.
use Rattle.std.specs.Prelude.{◌≡◌, ℕ, List, [], Bool, pos, Option, Some, None, slice_get}
use Rattle.std.specs.List.{AllByRecursion}
use Rattle.pram_check.specs.Checked.{Checked}
use Rattle.pram_names.specs.declared.body.Expression.{Expression}
use Rattle.pram_meaning.specs.Store as store
use Rattle.pram_meaning.specs.Store.{member_of, seen_by}
use Rattle.abstract_runs.specs.declared.standing.Member.{Member}
use Rattle.abstract_runs.specs.declared.standing.Standing.{Standing}
use Rattle.abstract_runs.specs.Standing.{IsKnownAs, IsMemberOf}
use Rattle.abstract_runs.specs.Tests.{ComesTo}

-- a processor is known so; one that isn't there has no locals
abbrev pub IsKnownAt : Option Member → store.Member → Type 0
IsKnownAt None g = g ≡ record { index = pos 0; locals = [] }
IsKnownAt (Some known) g = IsMemberOf g known

-- each processor of the set is known so
abbrev pub AreKnownIn : List Member → List ℕ → store.State → Type 0
AreKnownIn team vs m = AllByRecursion (λ v. IsKnownAt (slice_get team v) (member_of m.team v)) vs

-- a state in which what is known of all but the processors holds, and that of the processors of the set
pub record StandsOn (known : Standing) (team : List Member) (vs : List ℕ) (m : store.State) : Type 0 where
  pub known_as : IsKnownAs known m
  pub members : AreKnownIn team vs m

-- a state behind a test: that holds, and the processors are as they were
pub record IsStill (known : Standing) (before m : store.State) : Type 0 where
  pub known_as : IsKnownAs known m
  pub team : m.team ≡ before.team

-- the test of each processor of the set comes out so
abbrev pub AreWay : Checked → Expression → Bool → List ℕ → store.State → Type 0
AreWay p e way vs m = AllByRecursion (λ v. ComesTo (seen_by p m v) e way) vs
