-- The parts of a set that goes on behind a statement's attempts, and those whose test came out one way.
use Rattle.std.proofs.Common.{◌≡◌, ◌≢◌, ℕ, ◌+◌, List, [], ◌∷◌, ◌++◌, Bool, true, false, Option, Some, None, refl, ap, sym, subst, ◌∙◌}
use Rattle.std.proofs.Common.{if◌then◌else◌, nat_lt}
use Rattle.std.specs.List.{AllByRecursion}
use Rattle.pram_check.specs.Checked.{Checked}
use Rattle.pram_names.specs.declared.body.Expression.{Expression}
use Rattle.pram_values.specs.Truth.{is_nonzero}
use Rattle.pram_meaning.specs.declared.key.Key.{Key}
use Rattle.pram_meaning.specs.Attempt.{Attempt, Effect, Fails, Gives, and_then, attempt, attempt_value, unwritten}
use Rattle.pram_meaning.specs.Bounded.{Goes, Reaches, attempted_on, counted, tested_on, valued}
use Rattle.pram_meaning.specs.Conflict.{Part, keys, least}
use Rattle.pram_meaning.specs.Store.{State, View, seen_by}
use Rattle.pram_meaning.specs.Together.{on_key, parts, those, together, value_in}
use Rattle.abstract_runs.specs.Given.{AreGiven, IsGiving}
use Rattle.abstract_runs.specs.Inner.{AreWay}
use Rattle.abstract_runs.specs.Tests.{ComesTo}
use Rattle.abstract_runs.specs.Onward.{Onward}
use Rattle.abstract_runs.proofs.Faultless.{all_given}
use Rattle.abstract_runs.proofs.Onward.{onward_on, onward_then}

-- the parts are those of the state behind the count, none has a fault, and the processors are as they were
pub record AreMade (p : Checked) (a : View → Attempt Effect) (vs : List ℕ) (before : State) (xs : List Part) (m : State) : Type 0 where
  pub made : xs ≡ parts p m a vs
  pub faultless : least (keys p.rule xs) ≡ None
  pub team : m.team ≡ before.team

counted_stays : (n : ℕ) (m : State) → Onward (λ u s. s.team ≡ m.team) (counted n m)
counted_stays n m = by (nat_lt m.count n)
  where
    by : (b : Bool) → Onward {A = Unit {0}} (λ u s. s.team ≡ m.team) (if b then Goes (tt {0}) (record m { count = m.count + 1 }) else Reaches m.output)
    by true = refl
    by false = tt

module _ (p : Checked) (n line : ℕ) (a : View → Attempt Effect) (vs : List ℕ) where
  judged : (m s : State) → s.team ≡ m.team → (o : Option Key) → least (keys p.rule (parts p s a vs)) ≡ o →
      Onward (AreMade p a vs m) (valued (on_key line o (parts p s a vs)) s)
  judged m s same None none = record { made = refl; faultless = none; team = same }
  judged m s same (Some key) none = tt

  pub attempted_made : (m : State) → Onward (AreMade p a vs m) (attempted_on p n line a vs m)
  attempted_made m =
      onward_then (λ u s. s.team ≡ m.team) (AreMade p a vs m) (counted n m) (λ u s. valued (together p line (parts p s a vs)) s)
      (counted_stays n m) (λ u s same. judged m s same (least (keys p.rule (parts p s a vs))) refl)

-- ---- those whose test came out one way

-- what holds of each processor of the set holds of those
pub chosen_hold : (P : ℕ → Type 0) (p : Checked) (m : State) (a : View → Attempt Effect) (way : Bool) (vs : List ℕ) → AllByRecursion P vs →
    AllByRecursion P (those way (parts p m a vs))
chosen_hold P p m a way [] h = tt
chosen_hold P p m a true (v ∷ vs) h = by (is_nonzero (value_in (a (seen_by p m v)))) (chosen_hold P p m a true vs h.1)
  where
    by : (b : Bool) → AllByRecursion P (those true (parts p m a vs)) → AllByRecursion P ((if b then v ∷ [] else []) ++ those true (parts p m a vs))
    by true rest = (h.0, rest)
    by false rest = rest
chosen_hold P p m a false (v ∷ vs) h = by (is_nonzero (value_in (a (seen_by p m v)))) (chosen_hold P p m a false vs h.1)
  where
    by : (b : Bool) → AllByRecursion P (those false (parts p m a vs)) → AllByRecursion P ((if b then [] else v ∷ []) ++ those false (parts p m a vs))
    by true rest = rest
    by false rest = (h.0, rest)

-- the value of each of those comes out so
abbrev pub Comes : Checked → State → (View → Attempt Effect) → Bool → List ℕ → Type 0
Comes p m a way ws = AllByRecursion (λ v. is_nonzero (value_in (a (seen_by p m v))) ≡ way) ws

pub chosen_come : (p : Checked) (m : State) (a : View → Attempt Effect) (way : Bool) (vs : List ℕ) → Comes p m a way (those way (parts p m a vs))
chosen_come p m a way [] = tt
chosen_come p m a true (v ∷ vs) = by (is_nonzero (value_in (a (seen_by p m v)))) refl (chosen_come p m a true vs)
  where
    by : (b : Bool) → is_nonzero (value_in (a (seen_by p m v))) ≡ b → Comes p m a true (those true (parts p m a vs)) →
        Comes p m a true ((if b then v ∷ [] else []) ++ those true (parts p m a vs))
    by true e rest = (e, rest)
    by false e rest = rest
chosen_come p m a false (v ∷ vs) = by (is_nonzero (value_in (a (seen_by p m v)))) refl (chosen_come p m a false vs)
  where
    by : (b : Bool) → is_nonzero (value_in (a (seen_by p m v))) ≡ b → Comes p m a false (those false (parts p m a vs)) →
        Comes p m a false ((if b then [] else v ∷ []) ++ those false (parts p m a vs))
    by true e rest = rest
    by false e rest = (e, rest)

-- so one whose value comes out otherwise is none of them
unlike : (v : ℕ) (P : ℕ → Bool) (way other : Bool) → P v ≡ other → (other ≡ way → ⊥) → (ws : List ℕ) → AllByRecursion (λ w. P w ≡ way) ws →
    AllByRecursion (λ w. v ≢ w) ws
unlike v P way other is apart [] h = tt
unlike v P way other is apart (w ∷ ws) h =
    ((λ same. apart (sym is ∙ ap P same ∙ h.0)), unlike v P way other is apart ws h.1)

each_unlike : (P : ℕ → Bool) (ws us : List ℕ) → AllByRecursion (λ w. P w ≡ true) ws → AllByRecursion (λ u. P u ≡ false) us →
    AllByRecursion (λ u. AllByRecursion (λ w. u ≢ w) ws) us
each_unlike P ws [] h g = tt
each_unlike P ws (u ∷ us) h g = (unlike u P true false g.0 (λ e. absurd (cc e)) ws h, each_unlike P ws us h g.1)

-- nobody's test comes out both ways
pub ways_apart : (p : Checked) (m : State) (a : View → Attempt Effect) (vs : List ℕ) →
    AllByRecursion (λ u. AllByRecursion (λ w. u ≢ w) (those true (parts p m a vs))) (those false (parts p m a vs))
ways_apart p m a vs =
    each_unlike (λ v. is_nonzero (value_in (a (seen_by p m v)))) (those true (parts p m a vs)) (those false (parts p m a vs))
    (chosen_come p m a true vs) (chosen_come p m a false vs)

-- ---- tests

-- a test that gives something comes out as its value does
one_way : (s : View) (e : Expression) (way : Bool) → IsGiving (attempt_value s e) → is_nonzero (value_in (attempt_value s e)) ≡ way → ComesTo s e way
one_way s e way gives is = by (attempt s e []) refl gives is
  where
    by : (x : Attempt _) → attempt s e [] ≡ x → IsGiving (and_then x unwritten) → is_nonzero (value_in (and_then x unwritten)) ≡ way → ComesTo s e way
    by (Gives t z) e gives is = record { value = z; is = record { from = []; behind = t; gives = e }; goes = is }
    by (Fails t k) e gives is = absurd gives

given_each : (p : Checked) (m : State) (a : View → Attempt Effect) (vs : List ℕ) → AreGiven (parts p m a vs) →
    AllByRecursion (λ v. IsGiving (a (seen_by p m v))) vs
given_each p m a [] h = tt
given_each p m a (v ∷ vs) h = (h.0, given_each p m a vs h.1)

both_ways : (p : Checked) (m : State) (e : Expression) (way : Bool) (ws : List ℕ) →
    AllByRecursion (λ v. IsGiving (attempt_value (seen_by p m v) e)) ws →
    AllByRecursion (λ v. is_nonzero (value_in (attempt_value (seen_by p m v) e)) ≡ way) ws → AreWay p e way ws m
both_ways p m e way [] h g = tt
both_ways p m e way (w ∷ ws) h g = (one_way (seen_by p m w) e way h.0 g.0, both_ways p m e way ws h.1 g.1)

-- those whose test came out so are those of whom it does
pub chosen_way : (p : Checked) (e : Expression) (way : Bool) (vs : List ℕ) (before : State) (xs : List Part) (m : State) →
    AreMade p (λ s. attempt_value s e) vs before xs m → AreWay p e way (those way xs) m
chosen_way p e way vs before xs m h =
    let a : View → Attempt Effect = λ s. attempt_value s e in
    let given : AreGiven (parts p m a vs) = subst AreGiven h.made (all_given p.rule xs h.faultless) in
    subst (λ xs. AreWay p e way (those way xs) m) (sym h.made)
    (both_ways p m e way (those way (parts p m a vs))
    (chosen_hold (λ v. IsGiving (a (seen_by p m v))) p m a way vs (given_each p m a vs given)) (chosen_come p m a way vs))

pub tested_way : (p : Checked) (n line : ℕ) (e : Expression) (way : Bool) (vs : List ℕ) (m : State) →
    Onward (λ xs s. AreWay p e way (those way xs) s) (tested_on p n line e vs m)
tested_way p n line e way vs m =
    onward_on (AreMade p (λ s. attempt_value s e) vs m) (λ xs s. AreWay p e way (those way xs) s) (tested_on p n line e vs m)
    (attempted_made p n line (λ s. attempt_value s e) vs m) (λ xs s h. chosen_way p e way vs m xs s h)
