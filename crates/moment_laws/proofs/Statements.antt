-- A statement: it begins where the bound lets it, and what it comes to counts nothing more.
use Rattle.std.proofs.Common.{◌≡◌, ◌⊎◌, ◌≤◌, ◌<◌, ℕ, ◌+◌, ℤ, List, [], ◌∷◌, Bool, true, false, Option, Some, None, Result, Ok, Err}
use Rattle.std.proofs.Common.{if◌then◌else◌, arith, inl, inr, length, nat_lt, refl, subst}
use Rattle.std.proofs.lemmas.Bool.{cases_lt, le-ltb, lt-ltb}
use Rattle.pram_tokens.specs.declared.token.Location.{Location}
use Rattle.pram_check.specs.Checked.{Checked}
use Rattle.write_rules.specs.declared.fault.Fault.{Fault}
use Rattle.pram_meaning.specs.declared.key.Key.{Key}
use Rattle.pram_meaning.specs.Attempt.{Attempt, Effect, Fails, Gives}
use Rattle.pram_meaning.specs.Bounded.{Behaviour, Goes, Reaches, Stops, attempted_on, counted, evaluated, then_do, valued}
use Rattle.pram_meaning.specs.Conflict.{Part, keys, least}
use Rattle.pram_meaning.specs.Moments.{Action, Alone, Moment, StepAction, alone_moment, begun, by_set, left_by, set_moment}
use Rattle.pram_meaning.specs.Moments.{Sets, setting_moment, unchanged, writing}
use Rattle.pram_meaning.specs.Store.{State, View, with_uniform}
use Rattle.pram_meaning.specs.Together.{alone, on_key, parts, together}
use Rattle.moment_laws.specs.Following.{IsLeft, IsSameStore, Lead, statements}
use Rattle.moment_laws.proofs.Leading.{lead_none}
use Rattle.moment_laws.proofs.Left.{nothing_left, uniform_left}
use Rattle.moment_laws.proofs.Runs.{IsRun, done}

abbrev pub one_more : State → State
one_more m = record m { count = m.count + 1 }

counted_store : (m : State) → IsSameStore m (one_more m)
counted_store m = record { output = refl; uniforms = refl; cells = refl }

-- a statement that has begun, which is one moment: what it gives, or its fault
abbrev IsDone : {A : Type 0} → (n : ℕ) → State → Moment → Behaviour A → Type 0
IsDone n m x (Goes a new) = Lead (x ∷ []) m new × (new.count ≤ n)
IsDone n m x (Stops f out) = (last : State) × Lead (x ∷ []) m last × (last.output ≡ out) × (last.count ≤ n)
IsDone n m x (Reaches out) = ⊥

done_run : {A : Type 0} (n k : ℕ) (m : State) (x : Moment) (b : Behaviour A) → IsDone n m x b → IsRun n k m (x ∷ []) (x ∷ []) b b
done_run n k m x (Goes a new) is = (is.0, is.1, refl, refl)
done_run n k m x (Stops f out) is = (is, refl, refl)
done_run n k m x (Reaches out) is = absurd is

-- it has begun, or the bound forbids it
begun_run : {A : Type 0} (n k : ℕ) (m : State) (f : State → Moment) (g : Unit {0} → State → Behaviour A) →
    ((m : State) → length (statements (f m ∷ [])) ≡ 1) → n ≤ k → m.count ≤ n →
    (m.count < n → IsDone n m (f (one_more m)) (g done (one_more m))) →
    IsRun n k m (begun n m f) (begun k m f) (then_do (counted n m) g) (then_do (counted k m) g)
begun_run {A} n k m f g one more low is = by (cases_lt m.count n)
  where
    waits : n ≤ m.count → IsRun {A = A} n k m [] (begun k m f) (Reaches m.output) (then_do (counted k m) g)
    waits high = (
      m,
      lead_none m,
      refl,
      omega (arith, low, high),
      (
        statements (begun k m f),
        refl,
        λ less.
            rw (lt-ltb m.count k (omega (arith, low, less))) (let e = one (one_more m) in omega (arith, e)),
      ),
    )

    by : (m.count < n) ⊎ (n ≤ m.count) → IsRun n k m (begun n m f) (begun k m f) (then_do (counted n m) g) (then_do (counted k m) g)
    by (inl h) = rw (lt-ltb m.count n h, lt-ltb m.count k (omega (arith, h, more)))
        (done_run n k m (f (one_more m)) (g done (one_more m)) (is h))
    by (inr h) = rw (le-ltb m.count n h) (waits h)

-- ---- outside pardo

module _ {A B : Type 0} (here : Location) (act : Action) (write : A → Option ℕ) (left : A → State → State) (give : A → B)
    (a : State → Attempt A) where
  abbrev finish : Unit {0} → State → Behaviour B
  finish u m = then_do (valued (alone here.line (a m)) m) (λ v m. Goes (give v) (left v m))

  alone_done : ((v : A) (m : State) → IsLeft m (left v m)) → (n : ℕ) (m : State) → m.count < n → (x : Attempt A) →
      IsDone n m (Alone here act (one_more m) (writing write x) (left_by left x (one_more m)))
      (then_do (valued (alone here.line x) (one_more m)) (λ v m. Goes (give v) (left v m)))
  alone_done keeps n m low (Gives t v) =
      let l = keeps v (one_more m) in
      let e : (left v (one_more m)).count ≡ m.count + 1 = l.count in
      (((counted_store m, refl), l, lead_none (left v (one_more m))), omega (arith, e, low))
  alone_done keeps n m low (Fails t kind) =
      (one_more m, ((counted_store m, refl), refl, lead_none (one_more m)), refl, omega (arith, low))

  flat : (n : ℕ) (m : State) → then_do (counted n m) finish ≡ then_do (evaluated n here.line a m) (λ v m. Goes (give v) (left v m))
  flat n m = by (nat_lt m.count n)
    where
      by : (z : Bool) → then_do (if z then Goes done (one_more m) else Reaches m.output) finish ≡
          then_do (then_do (if z then Goes done (one_more m) else Reaches m.output) (λ u m. valued (alone here.line (a m)) m))
          (λ v m. Goes (give v) (left v m))
      by true = refl
      by false = refl

  pub alone_run : ((v : A) (m : State) → IsLeft m (left v m)) → (n k : ℕ) (m : State) → n ≤ k → m.count ≤ n →
      IsRun n k m (alone_moment n here act write left a m) (alone_moment k here act write left a m)
      (then_do (evaluated n here.line a m) (λ v m. Goes (give v) (left v m)))
      (then_do (evaluated k here.line a m) (λ v m. Goes (give v) (left v m)))
  alone_run keeps n k m more low =
      let f : State → Moment = λ m. Alone here act m (writing write (a m)) (left_by left (a m) m) in
      subst (λ b. IsRun n k m (begun n m f) (begun k m f) b (then_do (evaluated k here.line a m) (λ v m. Goes (give v) (left v m))))
      (flat n m)
      (subst (λ c. IsRun n k m (begun n m f) (begun k m f) (then_do (counted n m) finish) c) (flat k m)
      (begun_run n k m f finish (λ m. refl) more low (λ h. alone_done keeps n m h (a (one_more m)))))

-- what is given on as it is
pub same_goes : {A : Type 0} (b : Behaviour A) → then_do b (λ a m. Goes a m) ≡ b
same_goes (Goes a m) = refl
same_goes (Stops f out) = refl
same_goes (Reaches out) = refl

pub value_run : {A : Type 0} (here : Location) (act : Action) (write : A → Option ℕ) (a : State → Attempt A) (n k : ℕ) (m : State) → n ≤ k →
    m.count ≤ n → IsRun n k m (alone_moment n here act write unchanged a m) (alone_moment k here act write unchanged a m)
    (evaluated n here.line a m) (evaluated k here.line a m)
value_run here act write a n k m more low =
    let ms = alone_moment n here act write unchanged a m in
    let ns = alone_moment k here act write unchanged a m in
    subst (λ b. IsRun n k m ms ns b (evaluated k here.line a m)) (same_goes (evaluated n here.line a m))
    (subst (λ c. IsRun n k m ms ns (then_do (evaluated n here.line a m) (λ v m. Goes v m)) c) (same_goes (evaluated k here.line a m))
    (alone_run here act write unchanged (λ v. v) a (λ v m. nothing_left m) n k m more low))

-- the setting of the variable of a `for`
pub setting_run : (here : Location) (x : ℕ) (v : ℤ) (n k : ℕ) (m : State) → n ≤ k → m.count ≤ n →
    IsRun n k m (setting_moment n here x v m) (setting_moment k here x v m)
    (then_do (counted n m) (λ u m. Goes done (with_uniform x v m))) (then_do (counted k m) (λ u m. Goes done (with_uniform x v m)))
setting_run here x v n k m more low =
    begun_run n k m (λ m. Alone here (Sets x) m (Gives [] None) (with_uniform x v m)) (λ u m. Goes done (with_uniform x v m))
    (λ m. refl) more low
    (λ h. (((counted_store m, refl), uniform_left x v (one_more m), lead_none (with_uniform x v (one_more m))), omega (arith, h)))

-- ---- inside

module _ {B : Type 0} (p : Checked) (here : Location) (act : StepAction) (left : List Part → State → State) (give : List Part → B)
    (a : View → Attempt Effect) (vs : List ℕ) where
  abbrev finish_on : Unit {0} → State → Behaviour B
  finish_on u m = then_do (valued (together p here.line (parts p m a vs)) m) (λ xs m. Goes (give xs) (left xs m))

  set_done : ((xs : List Part) (m : State) → IsLeft m (left xs m)) → (n : ℕ) (m : State) → m.count < n → (xs : List Part)
      (key : Option Key) → IsDone n m (by_set here act left (one_more m) xs key)
      (then_do (valued (on_key here.line key xs) (one_more m)) (λ xs m. Goes (give xs) (left xs m)))
  set_done keeps n m low xs None =
      let l = keeps xs (one_more m) in
      let e : (left xs (one_more m)).count ≡ m.count + 1 = l.count in
      (((counted_store m, refl), l, lead_none (left xs (one_more m))), omega (arith, e, low))
  set_done keeps n m low xs (Some key) =
      (one_more m, ((counted_store m, refl), refl, lead_none (one_more m)), refl, omega (arith, low))

  flat_on : (n : ℕ) (m : State) → then_do (counted n m) finish_on ≡
      then_do (attempted_on p n here.line a vs m) (λ xs m. Goes (give xs) (left xs m))
  flat_on n m = by (nat_lt m.count n)
    where
      by : (z : Bool) → then_do (if z then Goes done (one_more m) else Reaches m.output) finish_on ≡
          then_do (then_do (if z then Goes done (one_more m) else Reaches m.output)
          (λ u m. valued (together p here.line (parts p m a vs)) m))
          (λ xs m. Goes (give xs) (left xs m))
      by true = refl
      by false = refl

  one_set : (m : State) (xs : List Part) (key : Option Key) → length (statements (by_set here act left m xs key ∷ [])) ≡ 1
  one_set m xs None = refl
  one_set m xs (Some key) = refl

  pub set_run : ((xs : List Part) (m : State) → IsLeft m (left xs m)) → (n k : ℕ) (m : State) → n ≤ k → m.count ≤ n →
      IsRun n k m (set_moment p n here act left a vs m) (set_moment p k here act left a vs m)
      (then_do (attempted_on p n here.line a vs m) (λ xs m. Goes (give xs) (left xs m)))
      (then_do (attempted_on p k here.line a vs m) (λ xs m. Goes (give xs) (left xs m)))
  set_run keeps n k m more low =
      let f : State → Moment = λ m. by_set here act left m (parts p m a vs) (least (keys p.rule (parts p m a vs))) in
      subst (λ b. IsRun n k m (begun n m f) (begun k m f) b
      (then_do (attempted_on p k here.line a vs m) (λ xs m. Goes (give xs) (left xs m))))
      (flat_on n m)
      (subst (λ c. IsRun n k m (begun n m f) (begun k m f) (then_do (counted n m) finish_on) c) (flat_on k m)
      (begun_run n k m f finish_on (λ m. one_set m (parts p m a vs) (least (keys p.rule (parts p m a vs)))) more low
      (λ h. set_done keeps n m h (parts p (one_more m) a vs) (least (keys p.rule (parts p (one_more m) a vs))))))

pub set_value_run : (p : Checked) (here : Location) (act : StepAction) (a : View → Attempt Effect) (vs : List ℕ) (n k : ℕ) (m : State) →
    n ≤ k → m.count ≤ n → IsRun n k m (set_moment p n here act unchanged a vs m) (set_moment p k here act unchanged a vs m)
    (attempted_on p n here.line a vs m) (attempted_on p k here.line a vs m)
set_value_run p here act a vs n k m more low =
    let ms = set_moment p n here act unchanged a vs m in
    let ns = set_moment p k here act unchanged a vs m in
    subst (λ b. IsRun n k m ms ns b (attempted_on p k here.line a vs m)) (same_goes (attempted_on p n here.line a vs m))
    (subst (λ c. IsRun n k m ms ns (then_do (attempted_on p n here.line a vs m) (λ v m. Goes v m)) c)
    (same_goes (attempted_on p k here.line a vs m))
    (set_run p here act unchanged (λ xs. xs) a vs (λ xs m. nothing_left m) n k m more low))

-- ---- what goes on has counted one at least

abbrev pub Moves : {A : Type 0} → State → Behaviour A → Type 0
Moves m (Goes a new) = m.count < new.count
Moves m (Stops f out) = Unit {0}
Moves m (Reaches out) = Unit {0}

pub begun_moves : {A : Type 0} (n : ℕ) (m : State) (r : State → Result A Fault) →
    Moves m (then_do (counted n m) (λ u m. valued (r m) m))
begun_moves {A} n m r = by (nat_lt m.count n)
  where
    come : (x : Result A Fault) → Moves m (valued x (one_more m))
    come (Ok a) = omega arith
    come (Err k) = tt

    by : (z : Bool) → Moves m (then_do (if z then Goes done (one_more m) else Reaches m.output) (λ u m. valued (r m) m))
    by true = come (r (one_more m))
    by false = tt

pub moves_map : {A B : Type 0} (m : State) (b : Behaviour A) (f : A → B) → Moves m b → Moves m (then_do b (λ a m. Goes (f a) m))
moves_map m (Goes a new) f h = h
moves_map m (Stops k out) f h = tt
moves_map m (Reaches out) f h = tt
