-- The meaning of a program, as a relation without any bound: big steps by cases on the program.
-- Concurrent statements for all indices of a range: JáJá, An Introduction to Parallel Algorithms, chapter 1 (`pardo` of the
-- work-time notation). The counting of statements is this project's own profile.
use Rattle.std.specs.Prelude.{◌≡◌, ℕ, zero, suc, ◌+◌, List, [], ◌∷◌, Bool, true, false, Result, Ok, Err, ℤ, pos, ◌+ℤ◌}
use Rattle.pram_model.specs.Layout.{width}
use Rattle.pram_check.specs.Checked.{Checked}
use Rattle.pram_names.specs.declared.body.Expression.{Expression}
use Rattle.pram_names.specs.declared.body.Statement.{Statement, Assign, Print, While', If', For', Pardo, Row_of-Statement, end_of-Statement}
use Rattle.pram_names.specs.declared.body.Statement.{more_of-Statement}
use Rattle.pram_names.specs.declared.body.Step as step
use Rattle.pram_names.specs.declared.body.Step.{Step, Row_of-Step, end_of-Step, more_of-Step}
use Rattle.pram_values.specs.Truth.{is_nonzero}
use Rattle.write_rules.specs.declared.fault.Fault.{Fault}
use Rattle.pram_meaning.specs.Store.{State, View, seen, with_uniform, printed, numbers, with_team, without_team}
use Rattle.pram_meaning.specs.Attempt.{Attempt, Effect, attempt, attempt_value, attempt_assign, attempt_step, attempt_bounds, attempt_range}
use Rattle.pram_meaning.specs.Conflict.{Part}
use Rattle.pram_meaning.specs.Together.{alone, assigned, parts, together, assigned_by, those}

-- what can be told of a run: it ends; or its k-th statement faults; or k statements have run and one more would begin
pub data Fate (A : Type 0) : Type 0 where
  Ends : A → State → Fate A
  Stops : Fault → ℕ → List ℤ → Fate A
  Reaches : ℕ → List ℤ → Fate A

abbrev pub Fates : Type 0 → Type 1
Fates A = Fate A → Type 0

abbrev pub Does : Type 1
Does = Fates (Unit {0})

-- first the one, then the other
pub data Then (A B : Type 0) (First : Fate A → Type 0) (Next : A → State → Fate B → Type 0) : Fate B → Type 0 where
  on : {a : A} {m : State} {f : Fate B} → First (Ends a m) → Next a m f → Then A B First Next f
  at_fault : {k : Fault} {c : ℕ} {out : List ℤ} → First (Stops k c out) → Then A B First Next (Stops k c out)
  at_start : {c : ℕ} {out : List ℤ} → First (Reaches c out) → Then A B First Next (Reaches c out)

-- one statement begins, or is about to
pub data Begins (m : State) : Fate (Unit {0}) → Type 0 where
  begins : Begins m (Ends tt (record m { count = m.count + 1 }))
  waits : Begins m (Reaches m.count m.output)

-- a value, or a fault
pub data Yields (A : Type 0) (m : State) : Result A Fault → Fate A → Type 0 where
  yields : {a : A} → Yields A m (Ok a) (Ends a m)
  faults : {k : Fault} → Yields A m (Err k) (Stops k m.count m.output)

-- the end, with this value and this state
abbrev pub IsEnd : {A : Type 0} → A → State → Fates A
IsEnd a m f = f ≡ Ends a m

-- ---- outside pardo: one processor acts

-- a statement's value: it counts, and it may fault
abbrev pub Evaluated : {A : Type 0} → ℕ → (State → Attempt A) → State → Fates A
Evaluated {A} line a m = Then (Unit {0}) A (Begins m) (λ u m. Yields A m (alone line (a m)))

abbrev pub Tested : Checked → ℕ → Expression → State → Fates Bool
Tested p line e m = Then ℤ Bool (Evaluated line (λ m. attempt (seen p m) e []) m) (λ v m. IsEnd (is_nonzero v) m)

-- the one or the other
abbrev pub Either : Bool → Does → Does → Does
Either true P Q = P
Either false P Q = Q

-- a loop that makes less than k turns
abbrev pub Turns : ℕ → (State → Fates Bool) → (State → Does) → State → Does
Turns zero Test Body m = λ f. ⊥
Turns (suc k) Test Body m =
    Then Bool (Unit {0}) (Test m) (λ z m. Either z (Then (Unit {0}) (Unit {0}) (Body m) (λ u. Turns k Test Body)) (IsEnd tt m))

-- the turns of a `for`, as many as there are numbers: each counts as it sets the variable
abbrev pub ForTurns : ℕ → ℕ → ℤ → (State → Does) → State → Does
ForTurns zero x a Body m = IsEnd tt m
ForTurns (suc k) x a Body m =
    Then (Unit {0}) (Unit {0}) (Begins m) (λ u m. Then (Unit {0}) (Unit {0}) (Body (with_uniform x a m))
    (λ u. ForTurns k x (a +ℤ pos 1) Body))

-- ---- inside pardo: a set of processors acts

-- a statement of the set: it counts, and it may fault
abbrev pub AttemptedOn : Checked → ℕ → (View → Attempt Effect) → List ℕ → State → Fates (List Part)
AttemptedOn p line a vs m = Then (Unit {0}) (List Part) (Begins m) (λ u m. Yields (List Part) m (together p line (parts p m a vs)))

abbrev pub UnlessNone : List ℕ → Does → Does → Does
UnlessNone [] P Q = P
UnlessNone (v ∷ vs) P Q = Q

-- a loop of the set, of less than k turns: it goes on with those whose test is true
abbrev pub TurnsOn : ℕ → (List ℕ → State → Fates (List Part)) → (List ℕ → State → Does) → List ℕ → State → Does
TurnsOn zero Test Body vs m = λ f. ⊥
TurnsOn (suc k) Test Body vs m =
    Then (List Part) (Unit {0}) (Test vs m) (λ xs m.
    UnlessNone (those true xs) (IsEnd tt m)
    (Then (Unit {0}) (Unit {0}) (Body (those true xs) m) (λ u. TurnsOn k Test Body (those true xs))))

abbrev mutual
  -- a statement inside pardo, on the members vs
  pub MeansOn : Checked → Step → List ℕ → State → Does
  MeansOn p (step.Assign here x e) vs m =
      Then (List Part) (Unit {0}) (AttemptedOn p here.line (λ s. attempt_step s x e) vs m) (λ xs m. IsEnd tt (assigned_by p x xs m))
  MeansOn p (step.If' here e q then_part r else_part) vs m =
      Then (List Part) (Unit {0}) (AttemptedOn p here.line (λ s. attempt_value s e) vs m) (λ xs m.
      Then (Unit {0}) (Unit {0}) (MeansRowOn p then_part (those true xs) m) (λ u. MeansRowOn p else_part (those false xs)))
  MeansOn p (step.While' here e q body) vs m = λ f. (k : ℕ)
      × TurnsOn k (AttemptedOn p here.line (λ s. attempt_value s e)) (MeansRowOn p body) vs m f

  -- statements in order
  pub MeansRowOn : Checked → {k : _} → Row_of-Step k → List ℕ → State → Does
  MeansRowOn p end_of-Step vs m = IsEnd tt m
  MeansRowOn p (more_of-Step s ss) vs m = Then (Unit {0}) (Unit {0}) (MeansOn p s vs m) (λ u. MeansRowOn p ss vs)

-- the same for the statements of a list
abbrev pub MeansListOn : Checked → List Step → List ℕ → State → Does
MeansListOn p [] vs m = IsEnd tt m
MeansListOn p (s ∷ ss) vs m = Then (Unit {0}) (Unit {0}) (MeansOn p s vs m) (λ u. MeansListOn p ss vs)

-- the body of a pardo of k processors from index a on
abbrev pub PardoDone : Checked → ℕ → List Step → ℤ → ℕ → State → Does
PardoDone p locals body a k m =
    Then (Unit {0}) (Unit {0}) (MeansListOn p body (numbers 0 k) (with_team a k locals m)) (λ u m. IsEnd tt (without_team m))

abbrev mutual
  -- a statement outside pardo
  pub Means : Checked → Statement → State → Does
  Means p (Assign here x e) m = Then Effect (Unit {0}) (Evaluated here.line (λ m. attempt_assign (seen p m) x e) m)
      (λ g m. IsEnd tt (assigned x g m))
  Means p (Print here e) m = Then ℤ (Unit {0}) (Evaluated here.line (λ m. attempt (seen p m) e []) m) (λ v m. IsEnd tt (printed v m))
  Means p (While' here e q body) m = λ f. (k : ℕ) × Turns k (Tested p here.line e) (MeansRow p body) m f
  Means p (If' here e q then_part r else_part) m =
      Then Bool (Unit {0}) (Tested p here.line e m) (λ z m. Either z (MeansRow p then_part m) (MeansRow p else_part m))
  Means p (For' here x e f q body) m =
      Then (ℤ × ℤ) (Unit {0}) (Evaluated here.line (λ m. attempt_bounds (seen p m) e f) m)
      (λ r. ForTurns (width r.0 r.1) x r.0 (MeansRow p body))
  Means p (Pardo here e f locals body) m =
      Then (ℤ × ℕ) (Unit {0}) (Evaluated here.line (λ m. attempt_range p.procs (seen p m) e f) m)
      (λ r. PardoDone p locals body.items r.0 r.1)

  -- statements in order
  pub MeansRow : Checked → {k : _} → Row_of-Statement k → State → Does
  MeansRow p end_of-Statement m = IsEnd tt m
  MeansRow p (more_of-Statement s ss) m = Then (Unit {0}) (Unit {0}) (Means p s m) (λ u. MeansRow p ss)

-- the same for the statements of a list
abbrev pub MeansList : Checked → List Statement → State → Does
MeansList p [] m = IsEnd tt m
MeansList p (s ∷ ss) m = Then (Unit {0}) (Unit {0}) (Means p s m) (λ u. MeansList p ss)
