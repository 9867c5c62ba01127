-- The bounded meaning agrees with the relation.
use Rattle.std.proofs.Common.{◌≡◌, ◌⊎◌, ℕ, zero, suc, ◌+◌, ◌≤◌, ◌<◌, [], Bool, true, false, Result, Ok, Err, if◌then◌else◌, refl, ap, sym}
use Rattle.std.proofs.Common.{◌∙◌, arith, subst, inl, inr}
use Rattle.std.proofs.lemmas.Bool.{cases_lt}
use Rattle.std.proofs.lemmas.Bool.{lt-ltb, le-ltb}
use Rattle.pram_meaning.specs.Meaning as relation
use Rattle.pram_check.specs.Checked.{Checked}
use Rattle.pram_names.specs.declared.body.Expression.{Expression}
use Rattle.pram_meaning.specs.Attempt.{Attempt, attempt}
use Rattle.pram_meaning.specs.Bounded.{Behaviour, Done, Goes, Reaches, Stops, counted, evaluated, found, tested, then_do, turns, valued}
use Rattle.pram_meaning.specs.Meaning.{Begins, Does, Either, Ends, Evaluated, Fate, Fates, IsEnd, Tested, Then, Turns, Yields, at_fault}
use Rattle.pram_meaning.specs.Meaning.{at_start, begins, faults, on, waits, yields}
use Rattle.pram_meaning.specs.Store.{State, seen}
use Rattle.pram_meaning.specs.Together.{alone}
use Rattle.pram_values.specs.Truth.{is_nonzero}
use Rattle.write_rules.specs.declared.fault.Fault.{Fault}

-- how many statements a fate tells of
abbrev pub count_of : {A : Type 0} → Fate A → ℕ
count_of (Ends a m) = m.count
count_of (relation.Stops k c out) = c
count_of (relation.Reaches c out) = c

-- the fate that a bounded run shows
abbrev pub Shows : {A : Type 0} → ℕ → Fates A → Behaviour A → Type 0
Shows n M (Goes a m) = M (Ends a m) × (m.count ≤ n)
Shows n M (Stops k out) = (c : ℕ) × M (relation.Stops k c out) × (c ≤ n)
Shows n M (Reaches out) = M (relation.Reaches n out)

-- a fate within the bound is what the bounded run comes to
abbrev pub Comes : {A : Type 0} → ℕ → Behaviour A → Fate A → Type 0
Comes n b (Ends a m) = m.count ≤ n → b ≡ Goes a m
Comes n b (relation.Stops k c out) = c ≤ n → b ≡ Stops k out
Comes n b (relation.Reaches c out) = c ≡ n → b ≡ Reaches out

pub record Agrees (A : Type 0) (n : ℕ) (m : State) (M : Fates A) (b : Behaviour A) : Type 0 where
  pub shows : Shows n M b
  pub comes : (f : Fate A) → M f → Comes n b f
  pub grows : (f : Fate A) → M f → m.count ≤ count_of f

shows_on : {A B : Type 0} (n : ℕ) (M : Fates A) (N : A → State → Fates B) (a : A) (m : State) (b : Behaviour B) → M (Ends a m) →
    Shows n (N a m) b → Shows n (Then A B M N) b
shows_on n M N a m (Goes c m') first s = (on first s.0, s.1)
shows_on n M N a m (Stops k out) first s = (s.0, on first s.1, s.2)
shows_on n M N a m (Reaches out) first s = on first s

pub shows_then : {A B : Type 0} (n : ℕ) (M : Fates A) (N : A → State → Fates B) (b : Behaviour A) (g : A → State → Behaviour B) →
    Shows n M b → ((a : A) (m : State) → M (Ends a m) → m.count ≤ n → Shows n (N a m) (g a m)) → Shows n (Then A B M N) (then_do b g)
shows_then n M N (Goes a m) g s rest = shows_on n M N a m (g a m) s.0 (rest a m s.0 s.1)
shows_then n M N (Stops k out) g s rest = (s.0, at_fault s.1, s.2)
shows_then n M N (Reaches out) g s rest = at_start s

-- what follows grows, so a moment on the way is within the bound
within : {B : Type 0} (n : ℕ) (m : State) (x y : Behaviour B) (f : Fate B) → (m.count ≤ n → x ≡ y) → m.count ≤ count_of f →
    (m.count ≤ n → Comes n y f) → Comes n x f
within n m x y (Ends a m') e g c = λ h. e (omega arith) ∙ c (omega arith) h
within n m x y (relation.Stops k d out) e g c = λ h. e (omega arith) ∙ c (omega arith) h
within n m x y (relation.Reaches d out) e g c = λ h. e (omega arith) ∙ c (omega arith) h

pub comes_then : {A B : Type 0} (n : ℕ) (M : Fates A) (N : A → State → Fates B) (b : Behaviour A) (g : A → State → Behaviour B) →
    ((f : Fate A) → M f → Comes n b f) → ((a : A) (m : State) (f : Fate B) → N a m f → m.count ≤ count_of f) →
    ((a : A) (m : State) → M (Ends a m) → m.count ≤ n → (f : Fate B) → N a m f → Comes n (g a m) f) → (f : Fate B) → Then A B M N f →
    Comes n (then_do b g) f
comes_then n M N b g first grows rest f (on {a} {m} p q) =
    within n m (then_do b g) (g a m) f (λ h. ap (λ b. then_do b g) (first (Ends a m) p h)) (grows a m f q) (λ h. rest a m p h f q)
comes_then n M N b g first grows rest f (at_fault {k} {c} {out} p) = λ h. ap (λ b. then_do b g) (first (relation.Stops k c out) p h)
comes_then n M N b g first grows rest f (at_start {c} {out} p) = λ h. ap (λ b. then_do b g) (first (relation.Reaches c out) p h)

pub grows_then : {A B : Type 0} (m : State) (M : Fates A) (N : A → State → Fates B) → ((f : Fate A) → M f → m.count ≤ count_of f) →
    ((a : A) (m : State) (f : Fate B) → N a m f → m.count ≤ count_of f) → (f : Fate B) → Then A B M N f → m.count ≤ count_of f
grows_then m M N first rest f (on {a = a} {m = k} p q) = let h : m.count ≤ k.count = first (Ends a k) p in let i : k.count ≤ count_of f =
    rest a k f q in omega arith
grows_then m M N first rest f (at_fault {k} {c} {out} p) = first (relation.Stops k c out) p
grows_then m M N first rest f (at_start {c} {out} p) = first (relation.Reaches c out) p

-- ---- a relation that grows, with the bounded function that agrees with it

abbrev pub Grows : {A : Type 0} → (State → Fates A) → Type 0
Grows {A} M = (m : State) (f : Fate A) → M m f → m.count ≤ count_of f

pub record Agree (A : Type 0) (n : ℕ) (M : State → Fates A) (b : State → Behaviour A) : Type 0 where
  pub shows : (m : State) → m.count ≤ n → Shows n (M m) (b m)
  pub comes : (m : State) → m.count ≤ n → (f : Fate A) → M m f → Comes n (b m) f
  pub grows : Grows M

pub agree_then : {A B : Type 0} (n : ℕ) (M : State → Fates A) (N : A → State → Fates B) (b : State → Behaviour A)
    (g : A → State → Behaviour B) → Agree A n M b → ((a : A) → Agree B n (N a) (g a)) → Agree B n (λ m. Then A B (M m) N)
    (λ m. then_do (b m) g)
agree_then {A} {B} n M N b g first rest = record {
  shows = λ m h. shows_then n (M m) N (b m) g (first.shows m h) (λ a m p. (rest a).shows m);
  comes = λ m h. comes_then n (M m) N (b m) g (first.comes m h) (λ a. (rest a).grows) (λ a m p. (rest a).comes m);
  grows = λ m. grows_then m (M m) N (first.grows m) (λ a. (rest a).grows);
}

-- ---- the parts

begins_comes : (n : ℕ) (m : State) → m.count ≤ n → (f : Fate (Unit {0})) → Begins m f → Comes n (counted n m) f
begins_comes n m h f begins = λ k. rw (lt-ltb m.count n (omega arith))
begins_comes n m h f waits = λ k. rw (le-ltb m.count n (omega arith))

begins_at : (n : ℕ) (m : State) → m.count ≤ n → (m.count < n) ⊎ (n ≤ m.count) → Shows n (Begins m) (counted n m)
begins_at n m h (inl l) = rw (lt-ltb m.count n l) (begins, omega arith)
begins_at n m h (inr l) = rw (le-ltb m.count n l) (let e : m.count ≡ n = omega arith in let P : ℕ →
    Type 0 = λ k. Begins m (relation.Reaches k m.output) in subst P e waits)

begins_shows : (n : ℕ) (m : State) → m.count ≤ n → Shows n (Begins m) (counted n m)
begins_shows n m h = begins_at n m h (cases_lt m.count n)

begins_grows : (m : State) (f : Fate (Unit {0})) → Begins m f → m.count ≤ count_of f
begins_grows m f begins = omega arith
begins_grows m f waits = omega arith

pub agree_counted : (n : ℕ) → Agree (Unit {0}) n Begins (counted n)
agree_counted n = record { shows = begins_shows n; comes = begins_comes n; grows = begins_grows }

yields_shows : {A : Type 0} (n : ℕ) (r : Result A Fault) (m : State) → m.count ≤ n → Shows n (Yields A m r) (valued r m)
yields_shows n (Ok a) m h = (yields, h)
yields_shows n (Err k) m h = (m.count, faults, h)

yields_comes : {A : Type 0} (n : ℕ) (r : Result A Fault) (m : State) (f : Fate A) → Yields A m r f → Comes n (valued r m) f
yields_comes n r m f (yields {a}) = λ k. refl
yields_comes n r m f (faults {k}) = λ h. refl

yields_grows : {A : Type 0} (r : Result A Fault) (m : State) (f : Fate A) → Yields A m r f → m.count ≤ count_of f
yields_grows r m f (yields {a}) = omega arith
yields_grows r m f (faults {k}) = omega arith

pub agree_valued : {A : Type 0} (n : ℕ) (r : State → Result A Fault) → Agree A n (λ m. Yields A m (r m)) (λ m. valued (r m) m)
agree_valued n r = record { shows = λ m. yields_shows n (r m) m; comes = λ m h. yields_comes n (r m) m; grows = λ m. yields_grows (r m) m }

-- ---- tests, loops and statements

pub agree_evaluated : {A : Type 0} (n line : ℕ) (a : State → Attempt A) → Agree A n (Evaluated line a) (evaluated n line a)
agree_evaluated n line a = agree_then n Begins (λ u m. Yields _ m (alone line (a m))) (counted n) (λ u m. valued (alone line (a m)) m)
    (agree_counted n) (λ u. agree_valued n (λ m. alone line (a m)))

pub end_shows : {A : Type 0} (n : ℕ) (a : A) (m : State) → m.count ≤ n → Shows n (IsEnd a m) (Goes a m)
end_shows n a m h = (refl, h)

pub end_comes : {A : Type 0} (n : ℕ) (a : A) (m : State) (f : Fate A) → f ≡ Ends a m → Comes n (Goes a m) f
end_comes n a m f e = subst (Comes n (Goes a m)) (sym e) (λ h. refl)

pub end_grows : {A : Type 0} (a : A) (m : State) (f : Fate A) → f ≡ Ends a m → m.count ≤ count_of f
end_grows a m f e = let P : Fate _ → Type 0 = λ f. m.count ≤ count_of f in subst P (sym e) (omega arith)

-- a step that only changes the store
pub agree_end : {A : Type 0} (n : ℕ) (a : State → A) (g : State → State) → ((m : State) → (g m).count ≡ m.count) →
    Agree A n (λ m. IsEnd (a m) (g m)) (λ m. Goes (a m) (g m))
agree_end n a g same = record {
  shows = λ m h. let e = same m in end_shows n (a m) (g m) (omega arith);
  comes = λ m h. end_comes n (a m) (g m);
  grows = λ m f e. let k = same m in let i = end_grows (a m) (g m) f e in omega arith;
}

pub agree_tested : (w : Checked) (n line : ℕ) (e : Expression) → Agree Bool n (Tested w line e) (tested w n line e)
agree_tested w n line e = agree_then n (Evaluated line (λ m. attempt (seen w m) e [])) (λ v m. IsEnd (is_nonzero v) m) (found w n line e)
    (λ v m. Goes (is_nonzero v) m) (agree_evaluated n line (λ m. attempt (seen w m) e []))
    (λ v. agree_end n (λ m. is_nonzero v) (λ m. m) (λ m. refl))

pub agree_either : (n : ℕ) (z : Bool) (M N : State → Does) (b c : State → Done) → Agree (Unit {0}) n M b → Agree (Unit {0}) n N c →
    Agree (Unit {0}) n (λ m. Either z (M m) (N m)) (λ m. if z then b m else c m)
agree_either n true M N b c p q = p
agree_either n false M N b c p q = q

-- ---- loops

abbrev pub Loop : (State → Fates Bool) → (State → Does) → State → Does
Loop T B m f = (j : ℕ) × Turns j T B m f

abbrev Turn : (State → Fates Bool) → (State → Does) → (State → Does) → State → Does
Turn T B L m = Then Bool (Unit {0}) (T m) (λ z m. Either z (Then (Unit {0}) (Unit {0}) (B m) (λ u. L)) (IsEnd tt m))

fold_true : (T : State → Fates Bool) (B : State → Does) (m k : State) (f : Fate (Unit {0})) → T m (Ends true k) → Then (Unit {0}) (Unit {0})
    (B k) (λ u. Loop T B) f → Loop T B m f
fold_true T B m k f p (on q r) = (suc r.0, on p (on q r.1))
fold_true T B m k f p (at_fault q) = (suc zero, on p (at_fault q))
fold_true T B m k f p (at_start q) = (suc zero, on p (at_start q))

fold_loop : (T : State → Fates Bool) (B : State → Does) (m : State) (f : Fate (Unit {0})) → Turn T B (Loop T B) m f → Loop T B m f
fold_loop T B m f (on {a = true} {m = k} p q) = fold_true T B m k f p q
fold_loop T B m f (on {a = false} p q) = (suc zero, on p q)
fold_loop T B m f (at_fault p) = (suc zero, at_fault p)
fold_loop T B m f (at_start p) = (suc zero, at_start p)

pub shows_map : {A : Type 0} (n : ℕ) (M N : Fates A) (b : Behaviour A) → ((f : Fate A) → M f → N f) → Shows n M b → Shows n N b
shows_map n M N (Goes a m) h s = (h (Ends a m) s.0, s.1)
shows_map n M N (Stops k out) h s = (s.0, h (relation.Stops k s.0 out) s.1, s.2)
shows_map n M N (Reaches out) h s = h (relation.Reaches n out) s

-- a test counts
abbrev Counts : (State → Fates Bool) → Type 0
Counts T = (m k : State) (z : Bool) → T m (Ends z k) → m.count < k.count

loop_shows : (n : ℕ) (T : State → Fates Bool) (B : State → Does) (t : State → Behaviour Bool) (b : State → Done) → Agree Bool n T t →
    Agree (Unit {0}) n B b → Counts T → (j : ℕ) (m : State) → n < j + m.count → m.count ≤ n → Shows n (Loop T B m) (turns j t b m)
loop_shows n T B t b at ab ct zero m e h = absurd (omega arith)
loop_shows n T B t b at ab ct (suc j) m e h =
    shows_map n (Turn T B (Loop T B) m) (Loop T B m) (turns (suc j) t b m) (fold_loop T B m)
    (shows_then n (T m) (λ z m. Either z (Then (Unit {0}) (Unit {0}) (B m) (λ u. Loop T B)) (IsEnd tt m)) (t m)
    (λ z m. if z then then_do (b m) (λ u. turns j t b) else Goes tt m)
    (at.shows m h)
    (λ z k p hk. elim z as (λ z. T m (Ends z k) →
    Shows n (Either z (Then (Unit {0}) (Unit {0}) (B k) (λ u. Loop T B)) (IsEnd tt k)) (if z then then_do (b k) (λ u. turns j t b) else
    Goes tt k)) [
      | true ↦ (λ p. shows_then n (B k) (λ u. Loop T B) (b k) (λ u. turns j t b) (ab.shows k hk) (λ u l q hl. let c : m.count < k.count =
          ct m k true p in let d : k.count ≤ l.count = ab.grows k (Ends u l) q in loop_shows n T B t b at ab ct j l (omega arith) hl))
      | false ↦ (λ p. end_shows n tt k hk)
    ] p))

loop_comes : (n : ℕ) (T : State → Fates Bool) (B : State → Does) (t : State → Behaviour Bool) (b : State → Done) → Agree Bool n T t →
    Agree (Unit {0}) n B b → Counts T → ((i : ℕ) → Grows (Turns i T B)) → (i j : ℕ) (m : State) → n < j + m.count → m.count ≤ n →
    (f : Fate (Unit {0})) → Turns i T B m f → Comes n (turns j t b m) f
loop_comes n T B t b at ab ct gr zero j m e h f r = absurd r
loop_comes n T B t b at ab ct gr (suc i) zero m e h f r = absurd (omega arith)
loop_comes n T B t b at ab ct gr (suc i) (suc j) m e h f r =
    comes_then n (T m) (λ z m. Either z (Then (Unit {0}) (Unit {0}) (B m) (λ u. Turns i T B)) (IsEnd tt m)) (t m)
    (λ z m. if z then then_do (b m) (λ u. turns j t b) else Goes tt m)
    (at.comes m h)
    (λ z k f. elim z as (λ z. Either z (Then (Unit {0}) (Unit {0}) (B k) (λ u. Turns i T B)) (IsEnd tt k) f →
    k.count ≤ count_of f) [ true ↦ grows_then k (B k) (λ u. Turns i T B) (ab.grows k) (λ u. gr i) f | false ↦ end_grows tt k f ])
    (λ z k p hk f. elim z as (λ z. T m (Ends z k) → Either z (Then (Unit {0}) (Unit {0}) (B k) (λ u. Turns i T B)) (IsEnd tt k) f →
    Comes n (if z then then_do (b k) (λ u. turns j t b) else Goes tt k) f) [
      | true ↦ (λ p. comes_then n (B k) (λ u. Turns i T B) (b k) (λ u. turns j t b) (ab.comes k hk) (λ u. gr i) (λ u l q hl.
          let c : m.count < k.count = ct m k true p in let d : k.count ≤ l.count = ab.grows k (Ends u l) q in
          loop_comes n T B t b at ab ct gr i j l (omega arith) hl) f)
      | false ↦ (λ p. end_comes n tt k f)
    ] p)
    f r

loop_grows : (T : State → Fates Bool) (B : State → Does) → Grows T → Grows B → (i : ℕ) → Grows (Turns i T B)
loop_grows T B gt gb zero m f r = absurd r
loop_grows T B gt gb (suc i) m f r =
    grows_then m (T m) (λ z m. Either z (Then (Unit {0}) (Unit {0}) (B m) (λ u. Turns i T B)) (IsEnd tt m)) (gt m)
    (λ z k f. elim z as (λ z. Either z (Then (Unit {0}) (Unit {0}) (B k) (λ u. Turns i T B)) (IsEnd tt k) f →
    k.count ≤ count_of f) [
      | true ↦ grows_then k (B k) (λ u. Turns i T B) (gb k) (λ u. loop_grows T B gt gb i) f
      | false ↦ end_grows tt k
          f
    ])
    f r

pub agree_loop : (n : ℕ) (T : State → Fates Bool) (B : State → Does) (t : State → Behaviour Bool) (b : State → Done) → Agree Bool n T t →
    Agree (Unit {0}) n B b → Counts T → Agree (Unit {0}) n (Loop T B) (turns (n + 1) t b)
agree_loop n T B t b at ab ct = record {
  shows = λ m h. loop_shows n T B t b at ab ct (n + 1) m (omega arith) h;
  comes = λ m h f r. loop_comes n T B t b at ab ct (loop_grows T B at.grows ab.grows) r.0 (n + 1) m (omega arith) h f r.1;
  grows = λ m f r. loop_grows T B at.grows ab.grows r.0 m f r.1;
}
