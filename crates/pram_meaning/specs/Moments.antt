-- A run as the list of its moments: each statement that begins, with the state before it, what those who execute it do, and the state
-- behind it. By recursion beside the bounded meaning.
-- A run as a sequence of time units, in each of which some processors act: JáJá, An Introduction to Parallel Algorithms, chapter 1 (the
-- work-time presentation). What counts as one statement is this project's own profile.
use Rattle.std.specs.Prelude.{ℕ, zero, suc, ◌+◌, List, [], ◌∷◌, ◌++◌, Bool, true, false, if◌then◌else◌, Option, Some, None, ℤ, pos, ◌+ℤ◌}
use Rattle.pram_model.specs.Layout.{width}
use Rattle.pram_tokens.specs.declared.token.Location.{Location}
use Rattle.pram_check.specs.Checked.{Checked}
use Rattle.pram_names.specs.declared.body.Expression.{Expression}
use Rattle.pram_names.specs.declared.body.Statement.{Statement, Assign, Print, While', If', For', Pardo, Row_of-Statement, end_of-Statement}
use Rattle.pram_names.specs.declared.body.Statement.{more_of-Statement}
use Rattle.pram_names.specs.declared.body.Step as step
use Rattle.pram_names.specs.declared.body.Step.{Step, Row_of-Step, end_of-Step, more_of-Step}
use Rattle.pram_names.specs.declared.body.StepTarget.{StepTarget}
use Rattle.pram_names.specs.declared.body.Target.{Target}
use Rattle.pram_meaning.specs.declared.key.Key.{Key}
use Rattle.pram_meaning.specs.Store.{State, View, seen, with_uniform, printed, numbers, with_team}
use Rattle.pram_meaning.specs.Attempt.{Attempt, Gives, Fails, Effect, attempt, attempt_value, attempt_assign, attempt_step}
use Rattle.pram_meaning.specs.Attempt.{attempt_bounds, attempt_range}
use Rattle.pram_meaning.specs.Conflict.{Part, keys, least}
use Rattle.pram_meaning.specs.Together.{assigned, assigned_by, parts, those}
use Rattle.pram_meaning.specs.Outcome.{opening}
use Rattle.pram_meaning.specs.Bounded.{Behaviour, Goes, Stops, Reaches, Done, counted, evaluated, tested, tested_on, perform}
use Rattle.pram_meaning.specs.Bounded.{perform_row, perform_on, perform_row_on}

-- what a statement outside pardo does: an assignment, a print, the test of a `while` or of an `if`, the bounds of a `for`, the setting of
-- its variable, and the range of a pardo
pub data Action : Type 0 where
  Assigns : Target → Expression → Action
  Prints : Expression → Action
  Turns : Expression → Action
  Chooses : Expression → Action
  Bounds : (low high : Expression) → Action
  Sets : (variable : ℕ) → Action
  Ranges : (low high : Expression) → Action

-- what a statement inside pardo does
pub data StepAction : Type 0 where
  AssignsOn : StepTarget → Expression → StepAction
  TurnsOn : Expression → StepAction
  ChoosesOn : Expression → StepAction

-- A statement of the one processor outside pardo: where it stands, what it does, the state before it, in which it counts, the attempt with
-- the cell that it writes, and the state behind it. Or one of a set: the parts of its members, its least fault, if there is one, and the
-- state behind it. Or the end of a branch of an `if`, or of a turn of a `for`. Behind a fault the state is the one before it.
pub data Moment : Type 0 where
  Alone : (here : Location) → Action → (before : State) → Attempt (Option ℕ) → (behind : State) → Moment
  Together : (here : Location) → StepAction → (before : State) → List Part → Option Key → (behind : State) → Moment
  Closed : Moment

-- those behind a part of a run that goes on
abbrev pub behind : {A : Type 0} → Behaviour A → (A → State → List Moment) → List Moment
behind (Goes a m) f = f a m
behind (Stops k out) f = []
behind (Reaches out) f = []

-- that of a statement, where the bound lets it begin
abbrev pub begun : ℕ → State → (State → Moment) → List Moment
begun n m f = behind (counted n m) (λ u m. f m ∷ [])

-- ---- outside pardo: one processor acts

-- what leaves the state as it is
abbrev pub unchanged : {A : Type 0} → A → State → State
unchanged a m = m

-- what writes no cell
abbrev pub nowhere : {A : Type 0} → A → Option ℕ
nowhere a = None

-- where an assignment writes
abbrev pub goes_to : Effect → Option ℕ
goes_to g = g.cell

-- an attempt, with the cell that it writes
abbrev pub writing : {A : Type 0} → (A → Option ℕ) → Attempt A → Attempt (Option ℕ)
writing write (Gives t a) = Gives t (write a)
writing write (Fails t k) = Fails t k

-- the state behind an attempt
abbrev pub left_by : {A : Type 0} → (A → State → State) → Attempt A → State → State
left_by left (Gives t a) m = left a m
left_by left (Fails t k) m = m

abbrev pub alone_moment : {A : Type 0} → ℕ → Location → Action → (A → Option ℕ) → (A → State → State) → (State → Attempt A) → State →
    List Moment
alone_moment n here act write left a m = begun n m (λ m. Alone here act m (writing write (a m)) (left_by left (a m) m))

-- that of a test
abbrev pub test_moment : Checked → ℕ → Location → Action → Expression → State → List Moment
test_moment p n here act e = alone_moment n here act nowhere unchanged (λ m. attempt (seen p m) e [])

-- that of a print
abbrev pub print_moment : Checked → ℕ → Location → Expression → State → List Moment
print_moment p n here e = alone_moment n here (Prints e) nowhere printed (λ m. attempt (seen p m) e [])

-- that of an assignment
abbrev pub assign_moment : Checked → ℕ → Location → Target → Expression → State → List Moment
assign_moment p n here x e = alone_moment n here (Assigns x e) goes_to (assigned x) (λ m. attempt_assign (seen p m) x e)

-- that of the bounds of a `for`
abbrev pub bounds_moment : Checked → ℕ → Location → Expression → Expression → State → List Moment
bounds_moment p n here e f = alone_moment n here (Bounds e f) nowhere unchanged (λ m. attempt_bounds (seen p m) e f)

-- that of the setting of its variable
abbrev pub setting_moment : ℕ → Location → (x : ℕ) → ℤ → State → List Moment
setting_moment n here x a m = begun n m (λ m. Alone here (Sets x) m (Gives [] None) (with_uniform x a m))

-- that of the range of a pardo
abbrev pub range_moment : Checked → ℕ → Location → Expression → Expression → State → List Moment
range_moment p n here e f = alone_moment n here (Ranges e f) nowhere unchanged (λ m. attempt_range p.procs (seen p m) e f)

-- ---- inside pardo: a set of processors acts

abbrev pub by_set : Location → StepAction → (List Part → State → State) → State → List Part → Option Key → Moment
by_set here act left m xs None = Together here act m xs None (left xs m)
by_set here act left m xs (Some k) = Together here act m xs (Some k) m

abbrev pub set_moment : Checked → ℕ → Location → StepAction → (List Part → State → State) → (View → Attempt Effect) → List ℕ → State →
    List Moment
set_moment p n here act left a vs m = begun n m (λ m. by_set here act left m (parts p m a vs) (least (keys p.rule (parts p m a vs))))

abbrev pub set_test_moment : Checked → ℕ → Location → StepAction → Expression → List ℕ → State → List Moment
set_test_moment p n here act e = set_moment p n here act unchanged (λ s. attempt_value s e)

abbrev pub set_assign_moment : Checked → ℕ → Location → StepTarget → Expression → List ℕ → State → List Moment
set_assign_moment p n here x e = set_moment p n here (AssignsOn x e) (assigned_by p x) (λ s. attempt_step s x e)

abbrev pub if_any : List ℕ → List Moment → List Moment
if_any [] ms = []
if_any (v ∷ vs) ms = ms

-- those of a loop of processors, of less turns than this
abbrev pub turns_on_moments : ℕ → (List ℕ → State → List Moment) → (List ℕ → State → Behaviour (List Part)) →
    (List ℕ → State → List Moment) → (List ℕ → State → Done) → List ℕ → State → List Moment
turns_on_moments zero head test inside body vs m = []
turns_on_moments (suc k) head test inside body vs m =
    head vs m ++ behind (test vs m) (λ xs m. if_any (those true xs)
    (inside (those true xs) m ++ behind (body (those true xs) m) (λ u. turns_on_moments k head test inside body (those true xs))))

abbrev mutual
  -- those of a statement inside pardo, on the members vs: one of nobody is a moment too
  pub inner_moments : Checked → ℕ → Step → List ℕ → State → List Moment
  inner_moments p n (step.Assign here x e) vs m = set_assign_moment p n here x e vs m
  inner_moments p n (step.If' here e q then_part r else_part) vs m =
      set_test_moment p n here (ChoosesOn e) e vs m ++ behind (tested_on p n here.line e vs m) (λ xs m.
      inner_row_moments p n then_part (those true xs) m
      ++ behind (perform_row_on p n then_part (those true xs) m) (λ u. inner_row_moments p n else_part (those false xs)))
  inner_moments p n (step.While' here e q body) vs m =
      turns_on_moments (n + 1) (set_test_moment p n here (TurnsOn e) e) (tested_on p n here.line e) (inner_row_moments p n body)
      (perform_row_on p n body) vs m

  -- those of statements in order
  pub inner_row_moments : Checked → ℕ → {k : _} → Row_of-Step k → List ℕ → State → List Moment
  inner_row_moments p n end_of-Step vs m = []
  inner_row_moments p n (more_of-Step s ss) vs m =
      inner_moments p n s vs m ++ behind (perform_on p n s vs m) (λ u. inner_row_moments p n ss vs)

-- the same for the statements of a list
abbrev pub inner_list_moments : Checked → ℕ → List Step → List ℕ → State → List Moment
inner_list_moments p n [] vs m = []
inner_list_moments p n (s ∷ ss) vs m = inner_moments p n s vs m ++ behind (perform_on p n s vs m) (λ u. inner_list_moments p n ss vs)

-- ---- all statements outside pardo

-- those of a loop, of less turns than this
abbrev pub turns_moments : ℕ → (State → List Moment) → (State → Behaviour Bool) → (State → List Moment) → (State → Done) → State →
    List Moment
turns_moments zero head test inside body m = []
turns_moments (suc k) head test inside body m =
    head m ++ behind (test m) (λ b m. if b then inside m ++ behind (body m) (λ u. turns_moments k head test inside body) else [])

-- those of a block that closes, however it comes out
abbrev pub closing : List Moment → List Moment
closing ms = ms ++ Closed ∷ []

-- those of the turns of a `for`: setting its variable is one each time
abbrev pub for_turns_moments : ℕ → Location → ℕ → ℕ → ℤ → (State → List Moment) → (State → Done) → State → List Moment
for_turns_moments n here zero x a inside body m = []
for_turns_moments n here (suc k) x a inside body m =
    setting_moment n here x a m ++ behind (counted n m) (λ u m. closing (inside (with_uniform x a m))
    ++ behind (body (with_uniform x a m)) (λ u. for_turns_moments n here k x (a +ℤ pos 1) inside body))

abbrev pub for_moments : Checked → ℕ → Location → (x : ℕ) → Expression → Expression → (State → List Moment) → (State → Done) → State →
    List Moment
for_moments p n here x e f inside body m =
    bounds_moment p n here e f m
    ++ behind (evaluated n here.line (λ m. attempt_bounds (seen p m) e f) m)
    (λ r. for_turns_moments n here (width r.0 r.1) x r.0 inside body)

abbrev pub pardo_moments : Checked → ℕ → Location → Expression → Expression → ℕ → List Step → State → List Moment
pardo_moments p n here e f locals body m =
    range_moment p n here e f m
    ++ behind (evaluated n here.line (λ m. attempt_range p.procs (seen p m) e f) m) (λ r m.
    inner_list_moments p n body (numbers 0 r.1) (with_team r.0 r.1 locals m))

abbrev mutual
  -- those of a statement outside pardo
  pub moments : Checked → ℕ → Statement → State → List Moment
  moments p n (Assign here x e) m = assign_moment p n here x e m
  moments p n (Print here e) m = print_moment p n here e m
  moments p n (While' here e q body) m =
      turns_moments (n + 1) (test_moment p n here (Turns e) e) (tested p n here.line e) (row_moments p n body) (perform_row p n body) m
  moments p n (If' here e q then_part r else_part) m =
      test_moment p n here (Chooses e) e m ++ behind (tested p n here.line e m) (λ b m.
      closing (if b then row_moments p n then_part m else row_moments p n else_part m))
  moments p n (For' here x e f q body) m = for_moments p n here x e f (row_moments p n body) (perform_row p n body) m
  moments p n (Pardo here e f locals body) m = pardo_moments p n here e f locals body.items m

  -- those of statements in order
  pub row_moments : Checked → ℕ → {k : _} → Row_of-Statement k → State → List Moment
  row_moments p n end_of-Statement m = []
  row_moments p n (more_of-Statement s ss) m = moments p n s m ++ behind (perform p n s m) (λ u. row_moments p n ss)

-- the same for the statements of a list
abbrev pub list_moments : Checked → ℕ → List Statement → State → List Moment
list_moments p n [] m = []
list_moments p n (s ∷ ss) m = moments p n s m ++ behind (perform p n s m) (λ u. list_moments p n ss)

-- those of a program's run on an input, of at most n statements
abbrev pub run_moments : Checked → List ℤ → ℕ → List Moment
run_moments p input n = list_moments p n p.body (opening p input)
