-- A pardo: its bounds, then its statements, by a team that ends with it.
use Rattle.std.proofs.Common.{◌≡◌, ℕ, ℤ, List, Bool, true, Option, Some, IsSomeAnd, refl, sym, subst}
use Rattle.pram_check.specs.Checked.{Checked}
use Rattle.pram_names.specs.declared.body.Expression.{Expression}
use Rattle.pram_names.specs.declared.body.Step.{Step}
use Rattle.pram_meaning.specs.Attempt.{attempt_range}
use Rattle.pram_meaning.specs.Bounded.{evaluated, pardo, pardo_done, perform_list_on}
use Rattle.pram_meaning.specs.Store.{State, members, numbers, seen, with_team, without_team}
use Rattle.abstract_runs.specs.declared.standing.Member.{Member}
use Rattle.abstract_runs.specs.declared.standing.Standing.{Standing}
use Rattle.all_inputs.specs.declared.told.Told.{Told}
use Rattle.abstract_runs.specs.Leads.{Leads}
use Rattle.abstract_runs.specs.Standing.{AreMembersOf, StandsFor, StandsWith}
use Rattle.all_inputs.specs.Told.{IsKept}
use Rattle.abstract_runs.proofs.Leading.{leads_then, kept_same}

begins : (known : Standing) (team : List Member) (a : ℤ) (k locals : ℕ) (m : State) → AreMembersOf (members a k locals) team →
    StandsFor known m → StandsWith known team (with_team a k locals m)
begins known team a k locals m are h = record {
  known_as = record {
    least = h.known_as.least;
    most = h.known_as.most;
    uniforms = h.known_as.uniforms;
    cells = h.known_as.cells;
    near = h.known_as.near;
  };
  members = are;
}

ends : (known : Standing) (team : List Member) (m : State) → StandsWith known team m → StandsFor known (without_team m)
ends known team m h = record {
  known_as = record {
    least = h.known_as.least;
    most = h.known_as.most;
    uniforms = h.known_as.uniforms;
    cells = h.known_as.cells;
    near = h.known_as.near;
  };
  team = refl;
}

-- the first index and how many there are, where they are known
pub range_as : (found : Option (ℤ × ℕ)) (q r : ℤ × ℕ) → found ≡ Some q → IsSomeAnd found (λ (q : ℤ × ℕ). r ≡ (q.0, q.1)) → r ≡ (q.0, q.1)
range_as found q r is h = subst (λ f. IsSomeAnd f (λ (q : ℤ × ℕ). r ≡ (q.0, q.1))) is h

pub pardo_leads : (p : Checked) (n line : ℕ) (e f : Expression) (locals : ℕ) (body : List Step) (P : ℤ × ℕ → Type 0) (known new : Standing)
    (mid told : Told) (team later : List Member) (a : ℤ) (k : ℕ) (on : Bool) (m : State) →
    Leads (λ r s. P r × StandsFor known s) mid (evaluated n line (λ m. attempt_range p.procs (seen p m) e f) m) → IsKept mid told →
    ((r : ℤ × ℕ) → P r → r ≡ (a, k)) → AreMembersOf (members a k locals) team →
    ((m : State) → StandsWith known team m →
    Leads (λ u s. (on ≡ true) × StandsWith new later s) told (perform_list_on p n body (numbers 0 k) m)) →
    Leads (λ u s. (on ≡ true) × StandsFor new s) told (pardo p n line e f locals body m)
pardo_leads p n line e f locals body P known new mid told team later a k on m leads kept is are does =
    leads_then (λ r s. P r × StandsFor known s) (λ u s. (on ≡ true) × StandsFor new s) mid told
    (evaluated n line (λ m. attempt_range p.procs (seen p m) e f) m) _ leads kept
    (λ r s g. subst (λ (r : ℤ × ℕ). Leads (λ u s. (on ≡ true) × StandsFor new s) told (pardo_done p n locals body r.0 r.1 s)) (sym (is r g.0))
    (leads_then (λ u s. (on ≡ true) × StandsWith new later s) (λ u s. (on ≡ true) × StandsFor new s) told told
    (perform_list_on p n body (numbers 0 k) (with_team a k locals s)) _ (does (with_team a k locals s) (begins known team a k locals s are g.1))
    (kept_same told) (λ u s h. (h.0, ends new later s h.1))))
