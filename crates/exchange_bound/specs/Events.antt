-- What happens in a run that bears on its exchanges: by recursion beside the bounded meaning, with no instruction in it.
use Rattle.std.specs.Prelude.{ℕ, zero, suc, ◌+◌, max, List, [], ◌∷◌, ◌++◌, length, Option, Some, None, Bool, true, false, if◌then◌else◌}
use Rattle.std.specs.Prelude.{ℤ, pos, ◌+ℤ◌, nat_lt}
use Rattle.pram_model.specs.Layout.{width}
use Rattle.pram_check.specs.Checked.{Checked}
use Rattle.pram_names.specs.declared.body.Expression.{Expression}
use Rattle.pram_names.specs.declared.body.Statement.{Statement, Assign, Print, While', If', For', Pardo, Row_of-Statement, end_of-Statement}
use Rattle.pram_names.specs.declared.body.Statement.{more_of-Statement}
use Rattle.pram_names.specs.declared.body.Target.{Target}
use Rattle.pram_names.specs.declared.body.Target.TheVariants as target
use Rattle.pram_names.specs.declared.body.StepTarget.{StepTarget}
use Rattle.pram_names.specs.declared.body.StepTarget.TheVariants as inner
use Rattle.pram_names.specs.declared.body.Step as step
use Rattle.pram_names.specs.declared.body.Step.{Step, Row_of-Step, end_of-Step, more_of-Step}
use Rattle.pram_meaning.specs.Store.{State, seen, with_uniform, numbers, with_team}
use Rattle.pram_meaning.specs.Attempt.{attempt_bounds, attempt_range}
use Rattle.pram_meaning.specs.Conflict.{Part}
use Rattle.pram_meaning.specs.Together.{those}
use Rattle.pram_meaning.specs.Outcome.{opening}
use Rattle.pram_meaning.specs.Bounded.{Behaviour, Goes, Stops, Reaches, Done, counted, evaluated, tested, tested_on, perform, perform_row}
use Rattle.pram_meaning.specs.Bounded.{perform_on, perform_row_on}
use Rattle.plain_form.specs.Formulas.{formula_of, nesting}
use Rattle.plain_form.specs.Formulas as formulas

-- A statement, with the levels of its shared reads and whether it writes to shared memory; how many processors of a set execute it, or none
-- where it stands outside pardo; and how many shared reads each of these makes. A place where what was written has to be sent; and a vote
-- whether a loop of processors goes on.
pub data Event : Type 0 where
  Runs : (levels : ℕ) → (writes : Bool) → (set : Option ℕ) → (reads : ℕ) → Event
  Cut : Event
  Votes : Event

-- ---- the levels of an expression's reads: 1 for a read without a read in its subscript, and one more than those in it for any other

abbrev pub levels : Expression → ℕ
levels e = nesting (formula_of e)

-- and how many there are
abbrev pub reads : Expression → ℕ
reads e = formulas.reads (formula_of e)

-- those of what is assigned to, and whether that is shared memory
abbrev pub target_levels : Target → ℕ
target_levels (target.Uniform x) = 0
target_levels (target.Cell a) = 0
target_levels (target.Element a e) = levels e

abbrev pub target_reads : Target → ℕ
target_reads (target.Uniform x) = 0
target_reads (target.Cell a) = 0
target_reads (target.Element a e) = reads e

abbrev pub is_shared : Target → Bool
is_shared (target.Uniform x) = false
is_shared (target.Cell a) = true
is_shared (target.Element a e) = true

abbrev pub step_target_levels : StepTarget → ℕ
step_target_levels (inner.Local x) = 0
step_target_levels (inner.Cell a) = 0
step_target_levels (inner.Element a e) = levels e

abbrev pub step_target_reads : StepTarget → ℕ
step_target_reads (inner.Local x) = 0
step_target_reads (inner.Cell a) = 0
step_target_reads (inner.Element a e) = reads e

abbrev pub is_step_shared : StepTarget → Bool
is_step_shared (inner.Local x) = false
is_step_shared (inner.Cell a) = true
is_step_shared (inner.Element a e) = true

-- ---- what is so of every statement

-- a statement that the bound lets begin, and none where it doesn't
abbrev pub begun : ℕ → State → List Event → List Event
begun n m es = if nat_lt m.count n then es else []

-- what happens behind a part of a run that goes on
abbrev pub behind : {A : Type 0} → Behaviour A → (A → State → List Event) → List Event
behind (Goes a m) f = f a m
behind (Stops k out) f = []
behind (Reaches out) f = []

-- ---- inside pardo

-- those of a set, where there is anybody in it
abbrev pub if_any : List ℕ → List Event → List Event
if_any [] es = []
if_any (v ∷ vs) es = es

-- the turns of a loop of processors, less than so many: the test of each, and its body by those that go on
abbrev pub turns_on_events : ℕ → (List ℕ → State → List Event) → (List ℕ → State → Behaviour (List Part)) → (List ℕ → State → Done) →
    (List ℕ → State → List Event) → List ℕ → State → List Event
turns_on_events zero head test body inside vs m = []
turns_on_events (suc k) head test body inside vs m =
    head vs m ++ behind (test vs m) (λ xs m. if_any (those true xs)
    (inside (those true xs) m ++ behind (body (those true xs) m) (λ u. turns_on_events k head test body inside (those true xs))))

abbrev mutual
  -- a statement inside pardo, on the members vs: it is one whether anybody executes it or not
  pub step_events : Checked → ℕ → Step → List ℕ → State → List Event
  step_events p n (step.Assign here x e) vs m = begun n m (Runs (max (step_target_levels x) (levels e)) (is_step_shared x)
      (Some (length vs)) (step_target_reads x + reads e) ∷ [])
  step_events p n (step.If' here e q then_part r else_part) vs m =
      begun n m (Runs (levels e) false (Some (length vs)) (reads e) ∷ []) ++ behind (tested_on p n here.line e vs m) (λ xs m.
      step_row_events p n then_part (those true xs) m
      ++ behind (perform_row_on p n then_part (those true xs) m) (λ u. step_row_events p n else_part (those false xs)))
  step_events p n (step.While' here e q body) vs m =
      turns_on_events (n + 1) (λ vs m. begun n m (Cut ∷ Runs (levels e) false (Some (length vs)) (reads e) ∷ Cut ∷ Votes ∷ []))
      (tested_on p n here.line e)
      (perform_row_on p n body) (step_row_events p n body) vs m

  -- statements in order
  pub step_row_events : Checked → ℕ → {k : _} → Row_of-Step k → List ℕ → State → List Event
  step_row_events p n end_of-Step vs m = []
  step_row_events p n (more_of-Step s ss) vs m =
      step_events p n s vs m ++ behind (perform_on p n s vs m) (λ u. step_row_events p n ss vs)

-- the same for the statements of a list
abbrev pub steps_events : Checked → ℕ → List Step → List ℕ → State → List Event
steps_events p n [] vs m = []
steps_events p n (s ∷ ss) vs m = step_events p n s vs m ++ behind (perform_on p n s vs m) (λ u. steps_events p n ss vs)

-- ---- outside pardo

-- the turns of a loop, less than so many: the test of each, and its body where that is true
abbrev pub turns_events : ℕ → (State → List Event) → (State → Behaviour Bool) → (State → Done) → (State → List Event) → State → List Event
turns_events zero head test body inside m = []
turns_events (suc k) head test body inside m =
    head m ++ behind (test m) (λ b m. if b then inside m ++ behind (body m) (λ u. turns_events k head test body inside) else [])

-- the turns of a `for`: the setting of its variable, its body, and the end of the turn
abbrev pub for_events : ℕ → ℕ → ℕ → ℤ → (State → Done) → (State → List Event) → State → List Event
for_events n zero x a body inside m = []
for_events n (suc k) x a body inside m =
    begun n m (Runs 0 false None 0 ∷ []) ++ behind (counted n m) (λ u m.
    inside (with_uniform x a m) ++ Cut ∷ behind (body (with_uniform x a m)) (λ u. for_events n k x (a +ℤ pos 1) body inside))

abbrev mutual
  -- a statement outside pardo
  pub events : Checked → ℕ → Statement → State → List Event
  events p n (Assign here x e) m = begun n m (Runs (max (target_levels x) (levels e)) (is_shared x) None (target_reads x + reads e) ∷ [])
  events p n (Print here e) m = begun n m (Runs (levels e) false None (reads e) ∷ [])
  events p n (While' here e q body) m =
      turns_events (n + 1) (λ m. begun n m (Cut ∷ Runs (levels e) false None (reads e) ∷ Cut ∷ [])) (tested p n here.line e)
      (perform_row p n body)
      (row_events p n body) m
  events p n (If' here e q then_part r else_part) m =
      begun n m (Runs (levels e) false None (reads e) ∷ Cut ∷ []) ++ behind (tested p n here.line e m) (λ b m.
      (if b then row_events p n then_part m else row_events p n else_part m) ++ Cut ∷ [])
  events p n (For' here x e f q body) m =
      begun n m (Runs (max (levels e) (levels f)) false None (reads e + reads f) ∷ Cut ∷ [])
      ++ behind (evaluated n here.line (λ m. attempt_bounds (seen p m) e f) m) (λ r.
      for_events n (width r.0 r.1) x r.0 (perform_row p n body) (row_events p n body))
  events p n (Pardo here e f locals body) m =
      begun n m (Runs (max (levels e) (levels f)) false None (reads e + reads f) ∷ [])
      ++ behind (evaluated n here.line (λ m. attempt_range p.procs (seen p m) e f) m) (λ r m.
      steps_events p n body.items (numbers 0 r.1) (with_team r.0 r.1 locals m))

  -- statements in order
  pub row_events : Checked → ℕ → {k : _} → Row_of-Statement k → State → List Event
  row_events p n end_of-Statement m = []
  row_events p n (more_of-Statement s ss) m = events p n s m ++ behind (perform p n s m) (λ u. row_events p n ss)

-- the same for the statements of a list
abbrev pub list_events : Checked → ℕ → List Statement → State → List Event
list_events p n [] m = []
list_events p n (s ∷ ss) m = events p n s m ++ behind (perform p n s m) (λ u. list_events p n ss)

-- those of a program's run on an input, of at most n statements
abbrev pub events_of : Checked → List ℤ → ℕ → List Event
events_of p input n = list_events p n p.body (opening p input)
