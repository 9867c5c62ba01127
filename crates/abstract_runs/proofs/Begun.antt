-- Statements behind their beginning.
use Rattle.std.proofs.Common.{◌≡◌, ℕ, ◌+◌, ◌<◌, ◌≤◌, ℤ, true, false, Bool, [], Option, Some, None, refl, sym, subst, if◌then◌else◌}
use Rattle.std.proofs.Common.{nat_lt, arith, tests}
use Rattle.pram_check.specs.Checked.{Checked}
use Rattle.pram_names.specs.declared.body.Expression.{Expression}
use Rattle.pram_names.specs.declared.body.Target.{Target}
use Rattle.pram_names.specs.declared.body.Target.TheVariants.{Uniform}
use Rattle.pram_meaning.specs.Attempt as meant
use Rattle.pram_meaning.specs.Attempt.{Attempt, Gives, Fails, Trail, and_then, attempt, attempt_assign, unwritten}
use Rattle.pram_meaning.specs.Bounded.{Done, Goes, Reaches, assign, counted, evaluated, then_do, valued}
use Rattle.pram_meaning.specs.Store.{State, View, seen}
use Rattle.pram_meaning.specs.Together.{alone, assigned}
use Rattle.abstract_runs.specs.declared.effect.Effect.{Effect}
use Rattle.abstract_runs.specs.declared.standing.Standing.{Standing}
use Rattle.all_inputs.specs.declared.told.Told.{Told}
use Rattle.abstract_runs.specs.Effects.{IsGiven, IsGivenBy}
use Rattle.abstract_runs.specs.Leads.{Leads}
use Rattle.abstract_runs.specs.Near.{AreNear}
use Rattle.abstract_runs.specs.Standing.{HasBegun, IsKnownAs, StandsFor}
use Rattle.abstract_runs.specs.Tests.{IsValueOf}
use Rattle.abstract_runs.proofs.Leading.{leads_then, kept_same}
use Rattle.abstract_runs.proofs.Nearness.{near_later}

-- what gives a statement's value: the state before it, counted
pub record IsEvaluated {A : Type 0} (a : State → Attempt A) (m : State) (v : A) (s : State) : Type 0 where
  pub count : s.count ≡ m.count + 1
  pub uniforms : s.uniforms ≡ m.uniforms
  pub trail : Trail
  pub gives : a s ≡ Gives trail v

valued_also : {A : Type 0} (P : A → State → Type 0) (told : Told) (line : ℕ) (a : State → Attempt A) (m s : State) (x : Attempt A) →
    a s ≡ x → s.count ≡ m.count + 1 → s.uniforms ≡ m.uniforms → Leads P told (valued (alone line x) s) →
    Leads (λ v s. P v s × IsEvaluated a m v s) told (valued (alone line x) s)
valued_also P told line a m s (Gives t v) is count same h = (h, record { count = count; uniforms = same; trail = t; gives = is })
valued_also P told line a m s (Fails t kind) is count same h = h

-- where one statement more comes to
abbrev begun : Bool → State → Done
begun b m = if b then Goes tt (record m { count = m.count + 1 }) else Reaches m.output

begun_also : {A : Type 0} (P : A → State → Type 0) (told : Told) (line : ℕ) (a : State → Attempt A) (m : State) (b : Bool) →
    Leads P told (then_do (begun b m) (λ u s. valued (alone line (a s)) s)) →
    Leads (λ v s. P v s × IsEvaluated a m v s) told (then_do (begun b m) (λ u s. valued (alone line (a s)) s))
begun_also P told line a m true h =
    valued_also P told line a m (record m { count = m.count + 1 }) (a (record m { count = m.count + 1 })) refl refl refl h
begun_also P told line a m false h = h

pub evaluated_also : {A : Type 0} (P : A → State → Type 0) (told : Told) (n line : ℕ) (a : State → Attempt A) (m : State) →
    Leads P told (evaluated n line a m) → Leads (λ v s. P v s × IsEvaluated a m v s) told (evaluated n line a m)
evaluated_also P told n line a m h = begun_also P told line a m (nat_lt m.count n) h

-- one statement more
pub counted_leads : (old : Standing) (least most bound : ℕ) (told : Told) (m : State) → IsKnownAs old m → least ≤ old.least + 1 →
    (m.count < bound → m.count + 1 ≤ most) → (bound ≤ old.most → told.may_go_on ≡ true) →
    Leads {A = Unit {0}} (λ u s. (true ≡ true)
    × IsKnownAs (record { least = least; most = most; uniforms = old.uniforms; cells = old.cells; origins = old.origins }) s
    × (s.team ≡ m.team)) told (counted bound m)
counted_leads old least most bound told m h low high goes_on = by (nat_lt m.count bound) refl
  where
    by : (b : Bool) → nat_lt m.count bound ≡ b → Leads {A = Unit {0}} (λ u s. (true ≡ true)
        × IsKnownAs (record { least = least; most = most; uniforms = old.uniforms; cells = old.cells; origins = old.origins }) s
        × (s.team ≡ m.team)) told (begun b m)
    by true e = (
      refl,
      record {
        least = (let l = h.least in omega (arith, low, l));
        most = high (grind (arith, tests, e));
        uniforms = h.uniforms;
        cells = h.cells;
        near = near_later m.count old.origins.items m.uniforms h.near;
      },
      refl,
    )
    by false e = let o = h.most in goes_on (grind (arith, tests, e, o))

-- the variables are as near as before
pub begun_behind : {A : Type 0} (a : State → Attempt A) (v : A) (old known : Standing) (m s : State) → StandsFor old m →
    known.origins.items ≡ old.origins.items → IsEvaluated a m v s → HasBegun known s
begun_behind a v old known m s h same e = record {
  before = m.count;
  one_more = e.count;
  near = subst (λ is. AreNear m.count is s.uniforms) (sym same)
      (subst (λ zs. AreNear m.count old.origins.items zs) (sym e.uniforms) h.known_as.near);
}

-- an assignment that gives such a value
pub assign_leads : (p : Checked) (n line : ℕ) (x : Target) (e : Expression) (found : Option Effect) (effect : Effect)
    (old known new : Standing) (told : Told) (m : State) → StandsFor old m → known.origins.items ≡ old.origins.items → found ≡ Some effect →
    Leads (λ g s. IsGivenBy found g × StandsFor known s) told (evaluated n line (λ m. attempt_assign (seen p m) x e) m) →
    ((p : Checked) (s : State) (t : Trail) (g : meant.Effect) → StandsFor known s → HasBegun known s →
    attempt_assign (seen p s) x e ≡ Gives t g → IsGiven effect g → StandsFor new (assigned x g s)) →
    Leads (λ u s. (true ≡ true) × StandsFor new s) told (assign p n line x e m)
assign_leads p n line x e found effect old known new told m h same some leads stores =
    leads_then (λ g s. (IsGivenBy found g × StandsFor known s) × IsEvaluated (λ m. attempt_assign (seen p m) x e) m g s)
    (λ u s. (true ≡ true) × StandsFor new s) told told (evaluated n line (λ m. attempt_assign (seen p m) x e) m)
    (λ g m. Goes tt (assigned x g m))
    (evaluated_also (λ g s. IsGivenBy found g × StandsFor known s) told n line (λ m. attempt_assign (seen p m) x e) m leads)
    (kept_same told)
    (λ g s k. (
      refl,
      stores p s k.1.trail g k.0.1 (begun_behind (λ m. attempt_assign (seen p m) x e) g old known m s h same k.1) k.1.gives
          (subst (λ f. IsGivenBy f g) some k.0.0),
    ))

-- ---- the value of an assignment to a variable

unwritten_gives : (a : Attempt ℤ) (t : Trail) (g : meant.Effect) → and_then a unwritten ≡ Gives t g → a ≡ Gives t g.value
unwritten_gives (Gives u v) t g e =
    let same : record { value = v; cell = None } ≡ g = cc e in let behind : u ≡ t = cc e in λ j. Gives (behind j) (same j).value
unwritten_gives (Fails u kind) t g e = absurd (cc e)

pub value_given : (s : View) (x : Target) (k : ℕ) (e : Expression) (t : Trail) (g : meant.Effect) → x ≡ Uniform k →
    attempt_assign s x e ≡ Gives t g → IsValueOf s e g.value
value_given s x k e t g is gives = record {
  from = [];
  behind = t;
  gives = unwritten_gives (attempt s e []) t g (subst (λ x. attempt_assign s x e ≡ Gives t g) is gives);
}
