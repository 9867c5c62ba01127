-- States for which more is known.
use Rattle.std.proofs.Common.{◌≡◌, ℕ, ◌≤◌, List, arith, subst, sym}
use Rattle.pram_meaning.specs.Store as store
use Rattle.pram_meaning.specs.Store.{State}
use Rattle.abstract_runs.specs.declared.standing.Member.{Member}
use Rattle.abstract_runs.specs.declared.standing.Standing.{Standing}
use Rattle.abstract_runs.specs.Following.{Follows, IsSameSize}
use Rattle.abstract_runs.specs.Likeness.{IsSame}
use Rattle.abstract_runs.specs.Standing.{IsKnownAs, AreMembersOf, StandsFor, StandsWith}

pub stands_on : (a b : Standing) → ((m : State) → IsKnownAs a m → IsKnownAs b m) → (m : State) → StandsFor a m → StandsFor b m
stands_on a b f m h = record { known_as = f m h.known_as; team = h.team }

pub follows_copy : (a b : Standing) → IsSame a b → IsSameSize a b → Follows a b
follows_copy a b same size = record {
  least = (let l = same.least in omega (arith, l));
  most = (let m = same.most in omega (arith, m));
  size = size;
}

pub bound_passed : (bound : ℕ) (a b c : Standing) → bound ≤ a.most → IsSame a b → Follows b c → bound ≤ c.most
bound_passed bound a b c h same f = let m = same.most in let n = f.most in omega (arith, h, m, n)

-- ---- inside pardo

pub stands_later : (a : Standing) (most : ℕ) (team : List Member) → a.most ≤ most → (m : State) → StandsWith a team m →
    StandsWith (record { least = a.least; most = most; uniforms = a.uniforms; cells = a.cells; origins = a.origins }) team m
stands_later a most team more m h = record {
  known_as = record {
    least = h.known_as.least;
    most = (let n = h.known_as.most in omega (arith, more, n));
    uniforms = h.known_as.uniforms;
    cells = h.known_as.cells;
    near = h.known_as.near;
  };
  members = h.members;
}

pub stands_copied : (a b : Standing) (team other : List Member) → ((m : State) → IsKnownAs a m → IsKnownAs b m) →
    ((gs : List store.Member) → AreMembersOf gs team → AreMembersOf gs other) → (m : State) → StandsWith a team m → StandsWith b other m
stands_copied a b team other f g m h = record { known_as = f m h.known_as; members = g m.team h.members }

pub stands_as : (known : Standing) (one two : List Member) (m : State) → one ≡ two → StandsWith known two m → StandsWith known one m
stands_as known one two m same h = subst (λ l. StandsWith known l m) (sym same) h
