-- What a program does, as a function, with a bound n on its statements.
use Rattle.std.specs.Prelude.{Result, Ok, Err, ℕ, zero, suc, ◌+◌, List, [], ◌∷◌, Bool, true, false, if◌then◌else◌, ℤ, pos, ◌+ℤ◌, nat_lt}
use Rattle.pram_model.specs.Layout.{width}
use Rattle.pram_check.specs.Checked.{Checked}
use Rattle.pram_names.specs.declared.body.Expression.{Expression}
use Rattle.pram_names.specs.declared.body.Statement.{Statement, Assign, Print, While', If', For', Pardo, Row_of-Statement, end_of-Statement}
use Rattle.pram_names.specs.declared.body.Statement.{more_of-Statement}
use Rattle.pram_names.specs.declared.body.Target.{Target}
use Rattle.pram_names.specs.declared.body.StepTarget.{StepTarget}
use Rattle.pram_names.specs.declared.body.Step as step
use Rattle.pram_names.specs.declared.body.Step.{Step, Row_of-Step, end_of-Step, more_of-Step}
use Rattle.pram_values.specs.Truth.{is_nonzero}
use Rattle.write_rules.specs.declared.fault.Fault.{Fault}
use Rattle.pram_meaning.specs.Store.{State, View, seen, with_uniform, printed, numbers, with_team, without_team}
use Rattle.pram_meaning.specs.Attempt.{Attempt, Effect, attempt, attempt_value, attempt_assign, attempt_step, attempt_bounds, attempt_range}
use Rattle.pram_meaning.specs.Conflict.{Part}
use Rattle.pram_meaning.specs.Together.{alone, assigned, parts, together, assigned_by, those}

-- where a run comes to: on with a value, to a fault, or where the bound forbids one more statement
pub data Behaviour (A : Type 0) : Type 0 where
  Goes : A → State → Behaviour A
  Stops : Fault → List ℤ → Behaviour A
  Reaches : List ℤ → Behaviour A

-- the first, then from its value and its state the second
abbrev pub then_do : {A B : Type 0} → Behaviour A → (A → State → Behaviour B) → Behaviour B
then_do (Goes a m) f = f a m
then_do (Stops k out) f = Stops k out
then_do (Reaches out) f = Reaches out

abbrev pub Done : Type 0
Done = Behaviour (Unit {0})

-- one statement more, if the bound allows it
abbrev pub counted : ℕ → State → Done
counted n m = if nat_lt m.count n then Goes tt (record m { count = m.count + 1 }) else Reaches m.output

-- a value, or a fault
abbrev pub valued : {A : Type 0} → Result A Fault → State → Behaviour A
valued (Ok a) m = Goes a m
valued (Err k) m = Stops k m.output

-- ---- outside pardo: one processor acts

-- a statement's value: it counts, and it may fault
abbrev pub evaluated : {A : Type 0} → ℕ → ℕ → (State → Attempt A) → State → Behaviour A
evaluated n line a m = then_do (counted n m) (λ u m. valued (alone line (a m)) m)

abbrev pub found : Checked → ℕ → ℕ → Expression → State → Behaviour ℤ
found p n line e = evaluated n line (λ m. attempt (seen p m) e [])

abbrev pub tested : Checked → ℕ → ℕ → Expression → State → Behaviour Bool
tested p n line e m = then_do (found p n line e m) (λ v m. Goes (is_nonzero v) m)

-- a loop of less turns than this
abbrev pub turns : ℕ → (State → Behaviour Bool) → (State → Done) → State → Done
turns zero test body m = Reaches m.output
turns (suc k) test body m =
    then_do (test m) (λ b m. if b then then_do (body m) (λ u. turns k test body) else Goes tt m)

-- the turns of a `for`, as many as there are numbers: each counts as it sets the variable
abbrev pub for_turns : ℕ → ℕ → ℕ → ℤ → (State → Done) → State → Done
for_turns n zero x a body m = Goes tt m
for_turns n (suc k) x a body m =
    then_do (counted n m) (λ u m. then_do (body (with_uniform x a m)) (λ u. for_turns n k x (a +ℤ pos 1) body))

-- ---- inside pardo: a set of processors acts

-- a statement of the set: it counts, and it may fault
abbrev pub attempted_on : Checked → ℕ → ℕ → (View → Attempt Effect) → List ℕ → State → Behaviour (List Part)
attempted_on p n line a vs m = then_do (counted n m) (λ u m. valued (together p line (parts p m a vs)) m)

-- a test of the set
abbrev pub tested_on : Checked → ℕ → ℕ → Expression → List ℕ → State → Behaviour (List Part)
tested_on p n line e = attempted_on p n line (λ s. attempt_value s e)

abbrev pub unless_none : List ℕ → Done → Done → Done
unless_none [] a b = a
unless_none (v ∷ vs) a b = b

-- a loop of the set, of less turns than this: it goes on with those whose test is true
abbrev pub turns_on : ℕ → (List ℕ → State → Behaviour (List Part)) → (List ℕ → State → Done) → List ℕ → State → Done
turns_on zero test body vs m = Reaches m.output
turns_on (suc k) test body vs m =
    then_do (test vs m) (λ xs m.
    unless_none (those true xs) (Goes tt m) (then_do (body (those true xs) m) (λ u. turns_on k test body (those true xs))))

-- an assignment of the set
abbrev pub assign_on : Checked → ℕ → ℕ → StepTarget → Expression → List ℕ → State → Done
assign_on p n line x e vs m =
    then_do (attempted_on p n line (λ s. attempt_step s x e) vs m) (λ xs m. Goes tt (assigned_by p x xs m))

abbrev mutual
  -- a statement inside pardo, on the members vs
  pub perform_on : Checked → ℕ → Step → List ℕ → State → Done
  perform_on p n (step.Assign here x e) vs m = assign_on p n here.line x e vs m
  perform_on p n (step.If' here e q then_part r else_part) vs m =
      then_do (tested_on p n here.line e vs m) (λ xs m.
      then_do (perform_row_on p n then_part (those true xs) m) (λ u. perform_row_on p n else_part (those false xs)))
  perform_on p n (step.While' here e q body) vs m = turns_on (n + 1) (tested_on p n here.line e) (perform_row_on p n body) vs m

  -- statements in order
  pub perform_row_on : Checked → ℕ → {k : _} → Row_of-Step k → List ℕ → State → Done
  perform_row_on p n end_of-Step vs m = Goes tt m
  perform_row_on p n (more_of-Step s ss) vs m = then_do (perform_on p n s vs m) (λ u. perform_row_on p n ss vs)

-- the same for the statements of a list
abbrev pub perform_list_on : Checked → ℕ → List Step → List ℕ → State → Done
perform_list_on p n [] vs m = Goes tt m
perform_list_on p n (s ∷ ss) vs m = then_do (perform_on p n s vs m) (λ u. perform_list_on p n ss vs)

-- the body of a pardo of k processors from index a on
abbrev pub pardo_done : Checked → ℕ → ℕ → List Step → ℤ → ℕ → State → Done
pardo_done p n locals body a k m =
    then_do (perform_list_on p n body (numbers 0 k) (with_team a k locals m)) (λ u m. Goes tt (without_team m))

-- ---- all statements outside pardo

abbrev pub assign : Checked → ℕ → ℕ → Target → Expression → State → Done
assign p n line x e m =
    then_do (evaluated n line (λ m. attempt_assign (seen p m) x e) m) (λ g m. Goes tt (assigned x g m))

abbrev pub print : Checked → ℕ → ℕ → Expression → State → Done
print p n line e m = then_do (found p n line e m) (λ v m. Goes tt (printed v m))

abbrev pub for_all : Checked → ℕ → (line x : ℕ) → Expression → Expression → (State → Done) → State → Done
for_all p n line x e f body m =
    then_do (evaluated n line (λ m. attempt_bounds (seen p m) e f) m) (λ r. for_turns n (width r.0 r.1) x r.0 body)

abbrev pub pardo : Checked → ℕ → ℕ → Expression → Expression → ℕ → List Step → State → Done
pardo p n line e f locals body m =
    then_do (evaluated n line (λ m. attempt_range p.procs (seen p m) e f) m) (λ r. pardo_done p n locals body r.0 r.1)

abbrev mutual
  -- a statement outside pardo
  pub perform : Checked → ℕ → Statement → State → Done
  perform p n (Assign here x e) m = assign p n here.line x e m
  perform p n (Print here e) m = print p n here.line e m
  perform p n (While' here e q body) m = turns (n + 1) (tested p n here.line e) (perform_row p n body) m
  perform p n (If' here e q then_part r else_part) m =
      then_do (tested p n here.line e m) (λ b m. if b then perform_row p n then_part m else perform_row p n else_part m)
  perform p n (For' here x e f q body) m = for_all p n here.line x e f (perform_row p n body) m
  perform p n (Pardo here e f locals body) m = pardo p n here.line e f locals body.items m

  -- statements in order
  pub perform_row : Checked → ℕ → {k : _} → Row_of-Statement k → State → Done
  perform_row p n end_of-Statement m = Goes tt m
  perform_row p n (more_of-Statement s ss) m = then_do (perform p n s m) (λ u. perform_row p n ss)

-- the same for the statements of a list
abbrev pub perform_list : Checked → ℕ → List Statement → State → Done
perform_list p n [] m = Goes tt m
perform_list p n (s ∷ ss) m = then_do (perform p n s m) (λ u. perform_list p n ss)
