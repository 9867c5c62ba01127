-- What a program's body names, reads and holds: all of it within bounds.
use Rattle.std.specs.Prelude.{◌≡◌, ℕ, ◌+◌, ◌≤◌, ◌<◌, max, List, [], ◌∷◌, length, Option, Some, None, ℤ, slice_get, MatchOption}
use Rattle.pram_model.specs.Declarations.{IsLayout}
use Rattle.pram_model.specs.Layout.{SharedEntry}
use Rattle.pram_trees.specs.Program.{limit, program_tokens}
use Rattle.pram_tokens.specs.Tokens.{IsNumber}
use Rattle.pram_names.specs.declared.body.Expression.{Expression, Number, Uniform, Index, Local, Cell, Element', Prefix', Chain'}
use Rattle.pram_names.specs.declared.body.Expression.{Row_of-Link, end_of-Link, more_of-Link}
use Rattle.pram_names.specs.declared.body.Target.{Target}
use Rattle.pram_names.specs.declared.body.Target.TheVariants as target
use Rattle.pram_names.specs.declared.body.StepTarget.{StepTarget}
use Rattle.pram_names.specs.declared.body.StepTarget.TheVariants as inner
use Rattle.pram_names.specs.declared.body.Step as step
use Rattle.pram_names.specs.declared.body.Step.{Step, Row_of-Step, end_of-Step, more_of-Step}
use Rattle.pram_names.specs.declared.body.Statement.{Statement, Assign, Print, While', If', For', Pardo, Row_of-Statement, end_of-Statement}
use Rattle.pram_names.specs.declared.body.Statement.{more_of-Statement}
use Rattle.pram_names.specs.Breaches.{most_reads, most_procs, most_tokens}
use Rattle.pram_check.specs.Checked.{Checked}

-- ---- names

-- what can be named: the shared declarations, so many uniform variables, and inside pardo the index and so many locals
pub record Names : Type 0 where
  pub layout : List SharedEntry
  pub uniforms : ℕ
  pub locals : Option ℕ

-- the shared declaration of that number is a single cell
abbrev pub IsSingleCell : Names → ℕ → Type 0
IsSingleCell s a = MatchOption (slice_get s.layout a) ⊥ (λ e. e.bounds ≡ None)

-- the shared declaration of that number is an array
abbrev pub IsArray : Names → ℕ → Type 0
IsArray s a = MatchOption (slice_get s.layout a) ⊥ (λ e. (b : ℤ × ℤ) × (e.bounds ≡ Some b))

abbrev pub IsInside : Names → Type 0
IsInside s = MatchOption s.locals ⊥ (λ n. Unit {0})

abbrev pub IsLocal : Names → ℕ → Type 0
IsLocal s x = MatchOption s.locals ⊥ (λ n. x < n)

abbrev mutual
  -- each name is declared, as what it is used for, and each number is from 0 to 9223372036854775807
  pub IsNamed : Names → Expression → Type 0
  IsNamed s (Number n) = IsNumber n
  IsNamed s (Uniform x) = x < s.uniforms
  IsNamed s Index = IsInside s
  IsNamed s (Local x) = IsLocal s x
  IsNamed s (Cell a) = IsSingleCell s a
  IsNamed s (Element' a b e) = IsArray s a × IsNamed s e
  IsNamed s (Prefix' o b e) = IsNamed s e
  IsNamed s (Chain' b e q links) = IsNamed s e × AreNamed s links

  pub AreNamed : Names → {n : _} → Row_of-Link n → Type 0
  AreNamed s end_of-Link = Unit {0}
  AreNamed s (more_of-Link o e links) = IsNamed s e × AreNamed s links

-- ---- shared reads

abbrev mutual
  -- how many shared reads an expression has
  pub reads : Expression → ℕ
  reads (Number n) = 0
  reads (Uniform x) = 0
  reads Index = 0
  reads (Local x) = 0
  reads (Cell a) = 1
  reads (Element' a b e) = 1 + reads e
  reads (Prefix' o b e) = reads e
  reads (Chain' b e q links) = reads e + link_reads links

  pub link_reads : {n : _} → Row_of-Link n → ℕ
  link_reads end_of-Link = 0
  link_reads (more_of-Link o e links) = reads e + link_reads links

-- the one expression of a statement, with at most eight shared reads
abbrev pub IsSole : Names → Expression → Type 0
IsSole s e = IsNamed s e × (reads e ≤ most_reads)

-- the two expressions of a statement, with together at most eight shared reads
abbrev pub ArePair : Names → Expression → Expression → Type 0
ArePair s e f = IsNamed s e × IsNamed s f × (reads e + reads f ≤ most_reads)

-- ---- statements

-- an assignment inside pardo
abbrev pub IsInnerAssign : Names → StepTarget → Expression → Type 0
IsInnerAssign s (inner.Local x) e = IsLocal s x × IsSole s e
IsInnerAssign s (inner.Cell a) e = IsSingleCell s a × IsSole s e
IsInnerAssign s (inner.Element a i) e = IsArray s a × ArePair s i e

-- an assignment outside pardo
abbrev pub IsAssign : Names → Target → Expression → Type 0
IsAssign s (target.Uniform x) e = (x < s.uniforms) × IsSole s e
IsAssign s (target.Cell a) e = IsSingleCell s a × IsSole s e
IsAssign s (target.Element a i) e = IsArray s a × ArePair s i e

abbrev mutual
  -- a statement inside pardo: all that it names is declared, and no statement in it has more than eight shared reads
  pub IsStep : Names → Step → Type 0
  IsStep s (step.Assign here x e) = IsInnerAssign s x e
  IsStep s (step.If' here e q then_part r else_part) = IsSole s e × ArePartSteps s then_part × ArePartSteps s else_part
  IsStep s (step.While' here e q body) = IsSole s e × ArePartSteps s body

  pub ArePartSteps : Names → {k : _} → Row_of-Step k → Type 0
  ArePartSteps s end_of-Step = Unit {0}
  ArePartSteps s (more_of-Step x xs) = IsStep s x × ArePartSteps s xs

-- the same of the statements of a list
abbrev pub AreSteps : Names → List Step → Type 0
AreSteps s [] = Unit {0}
AreSteps s (x ∷ xs) = IsStep s x × AreSteps s xs

-- inside a pardo with so many locals
abbrev pub with_locals : ℕ → Names → Names
with_locals n s = record s { locals = Some n }

abbrev mutual
  -- a statement outside pardo: all that it names is declared, and no statement in it has more than eight shared reads
  pub IsStatement : Names → Statement → Type 0
  IsStatement s (Assign here x e) = IsAssign s x e
  IsStatement s (Print here e) = IsSole s e
  IsStatement s (While' here e q body) = IsSole s e × ArePartStatements s body
  IsStatement s (If' here e q then_part r else_part) = IsSole s e × ArePartStatements s then_part × ArePartStatements s else_part
  IsStatement s (For' here x e f q body) = (x < s.uniforms) × ArePair s e f × ArePartStatements s body
  IsStatement s (Pardo here e f locals body) = ArePair s e f × AreSteps (with_locals locals s) body.items

  pub ArePartStatements : Names → {k : _} → Row_of-Statement k → Type 0
  ArePartStatements s end_of-Statement = Unit {0}
  ArePartStatements s (more_of-Statement x xs) = IsStatement s x × ArePartStatements s xs

-- the same of the statements of a list
abbrev pub AreStatements : Names → List Statement → Type 0
AreStatements s [] = Unit {0}
AreStatements s (x ∷ xs) = IsStatement s x × AreStatements s xs

-- ---- nesting

abbrev mutual
  -- how deep `if` and `while` nest in a statement inside pardo
  pub step_depth : Step → ℕ
  step_depth (step.Assign here x e) = 0
  step_depth (step.If' here e q then_part r else_part) = 1 + max (part_step_depth then_part) (part_step_depth else_part)
  step_depth (step.While' here e q body) = 1 + part_step_depth body

  pub part_step_depth : {k : _} → Row_of-Step k → ℕ
  part_step_depth end_of-Step = 0
  part_step_depth (more_of-Step x xs) = max (step_depth x) (part_step_depth xs)

-- the same of the statements of a list
abbrev pub steps_depth : List Step → ℕ
steps_depth [] = 0
steps_depth (x ∷ xs) = max (step_depth x) (steps_depth xs)

abbrev mutual
  -- how deep `if`, `while`, `for` and pardo nest in a statement
  pub depth : Statement → ℕ
  depth (Assign here x e) = 0
  depth (Print here e) = 0
  depth (While' here e q body) = 1 + part_depth body
  depth (If' here e q then_part r else_part) = 1 + max (part_depth then_part) (part_depth else_part)
  depth (For' here x e f q body) = 1 + part_depth body
  depth (Pardo here e f locals body) = 1 + steps_depth body.items

  pub part_depth : {k : _} → Row_of-Statement k → ℕ
  part_depth end_of-Statement = 0
  part_depth (more_of-Statement x xs) = max (depth x) (part_depth xs)

-- the same of the statements of a list
abbrev pub body_depth : List Statement → ℕ
body_depth [] = 0
body_depth (x ∷ xs) = max (depth x) (body_depth xs)

-- ---- size

abbrev mutual
  -- the nodes of an expression: its numbers, its names and its operators
  pub nodes : Expression → ℕ
  nodes (Number n) = 1
  nodes (Uniform x) = 1
  nodes Index = 1
  nodes (Local x) = 1
  nodes (Cell a) = 1
  nodes (Element' a b e) = 1 + nodes e
  nodes (Prefix' o b e) = 1 + nodes e
  nodes (Chain' b e q links) = nodes e + link_nodes links

  pub link_nodes : {n : _} → Row_of-Link n → ℕ
  link_nodes end_of-Link = 0
  link_nodes (more_of-Link o e links) = 1 + nodes e + link_nodes links

abbrev pub inner_target_nodes : StepTarget → ℕ
inner_target_nodes (inner.Local x) = 1
inner_target_nodes (inner.Cell a) = 1
inner_target_nodes (inner.Element a i) = 1 + nodes i

abbrev pub target_nodes : Target → ℕ
target_nodes (target.Uniform x) = 1
target_nodes (target.Cell a) = 1
target_nodes (target.Element a i) = 1 + nodes i

abbrev mutual
  -- the size of a statement inside pardo: itself, the nodes of its expressions, and the statements in it
  pub step_size : Step → ℕ
  step_size (step.Assign here x e) = 1 + inner_target_nodes x + nodes e
  step_size (step.If' here e q then_part r else_part) = 1 + nodes e + part_step_size then_part + part_step_size else_part
  step_size (step.While' here e q body) = 1 + nodes e + part_step_size body

  pub part_step_size : {k : _} → Row_of-Step k → ℕ
  part_step_size end_of-Step = 0
  part_step_size (more_of-Step x xs) = step_size x + part_step_size xs

-- the same of the statements of a list
abbrev pub steps_size : List Step → ℕ
steps_size [] = 0
steps_size (x ∷ xs) = step_size x + steps_size xs

abbrev mutual
  -- the size of a statement; a pardo has one more for its index and each local
  pub size : Statement → ℕ
  size (Assign here x e) = 1 + target_nodes x + nodes e
  size (Print here e) = 1 + nodes e
  size (While' here e q body) = 1 + nodes e + part_size body
  size (If' here e q then_part r else_part) = 1 + nodes e + part_size then_part + part_size else_part
  size (For' here x e f q body) = 2 + nodes e + nodes f + part_size body
  size (Pardo here e f locals body) = 2 + nodes e + nodes f + locals + steps_size body.items

  pub part_size : {k : _} → Row_of-Statement k → ℕ
  part_size end_of-Statement = 0
  part_size (more_of-Statement x xs) = size x + part_size xs

-- the same of the statements of a list
abbrev pub body_size : List Statement → ℕ
body_size [] = 0
body_size (x ∷ xs) = size x + body_size xs

-- ---- programs

-- what the body can name
abbrev pub names_of : Checked → Names
names_of p = record { layout = p.layout; uniforms = p.uniforms; locals = None }

-- A program within bounds.
pub record IsBounded (p : Checked) : Type 0 where
  pub some_procs : 1 ≤ p.procs
  pub few_procs : p.procs ≤ most_procs
  -- at most 1,048,576 cells, different names, and bounds from 0 on
  pub layout : IsLayout p.layout
  -- what is named is declared, and no statement has more than eight shared reads
  pub body : AreStatements (names_of p) p.body
  -- statements nest at most 64 deep, so those of a pardo at most 63
  pub depth : body_depth p.body ≤ limit
  -- declarations, uniform variables and the body are no more than the text's tokens
  pub small : length p.layout + p.uniforms + body_size p.body ≤ length (program_tokens p.tree)
  pub few_tokens : length (program_tokens p.tree) ≤ most_tokens
