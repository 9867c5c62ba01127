-- Which shared reads of a statement stand in a subscript, read by read, in the order of evaluation: operands before their operation, a
-- subscript before its read, and that of the cell that is written before the value.
use Rattle.std.specs.Prelude.{ℕ, nat_eq, if◌then◌else◌, List, [], ◌∷◌, ◌++◌, Bool, true, false}
use Rattle.pram_tokens.specs.declared.token.Location.{Location}
use Rattle.pram_names.specs.declared.body.Expression.{Expression, Number, Uniform, Index, Local, Cell, Element', Prefix', Chain'}
use Rattle.pram_names.specs.declared.body.Expression.{Row_of-Link, end_of-Link, more_of-Link}
use Rattle.pram_names.specs.declared.body.Link.{Link}
use Rattle.pram_names.specs.declared.body.Statement as statement
use Rattle.pram_names.specs.declared.body.Statement.{Statement, Row_of-Statement, end_of-Statement, more_of-Statement}
use Rattle.pram_names.specs.declared.body.Target.{Target}
use Rattle.pram_names.specs.declared.body.Target.TheVariants as target
use Rattle.pram_names.specs.declared.body.StepTarget.{StepTarget}
use Rattle.pram_names.specs.declared.body.StepTarget.TheVariants as inner
use Rattle.pram_names.specs.declared.body.Step as step
use Rattle.pram_names.specs.declared.body.Step.{Step, Row_of-Step, end_of-Step, more_of-Step}

-- ---- expressions

abbrev mutual
  -- those of an expression, which may stand in a subscript itself
  pub asides : (inside : Bool) → Expression → List Bool
  asides inside (Number n) = []
  asides inside (Uniform x) = []
  asides inside Index = []
  asides inside (Local x) = []
  asides inside (Cell a) = inside ∷ []
  asides inside (Element' a b e) = asides true e ++ inside ∷ []
  asides inside (Prefix' o b e) = asides inside e
  asides inside (Chain' b e q links) = asides inside e ++ row_asides inside links

  pub row_asides : (inside : Bool) → {n : _} → Row_of-Link n → List Bool
  row_asides inside end_of-Link = []
  row_asides inside (more_of-Link o e links) = asides inside e ++ row_asides inside links

-- the same for the operands of a list
abbrev pub link_asides : (inside : Bool) → List Link → List Bool
link_asides inside [] = []
link_asides inside (l ∷ ls) = asides inside l.operand ++ link_asides inside ls

-- ---- statements

abbrev pub target_asides : Target → List Bool
target_asides (target.Uniform x) = []
target_asides (target.Cell a) = []
target_asides (target.Element a e) = asides true e

abbrev pub inner_asides : StepTarget → List Bool
inner_asides (inner.Local x) = []
inner_asides (inner.Cell a) = []
inner_asides (inner.Element a e) = asides true e

abbrev pub assign_asides : Target → Expression → List Bool
assign_asides x e = target_asides x ++ asides false e

abbrev pub step_assign_asides : StepTarget → Expression → List Bool
step_assign_asides x e = inner_asides x ++ asides false e

-- of two bounds, the low one first
abbrev pub bounds_asides : (low high : Expression) → List Bool
bounds_asides e f = asides false e ++ asides false f

-- ---- the statement that begins at an offset of the text: no two do

-- those of one that begins here, if it is that
abbrev pub here_or_none : Location → (offset : ℕ) → List Bool → List Bool
here_or_none here offset own = if nat_eq here.offset offset then own else []

abbrev mutual
  pub step_at : (offset : ℕ) → Step → List Bool
  step_at o (step.Assign here x e) = here_or_none here o (step_assign_asides x e)
  step_at o (step.If' here e q then_part r else_part) =
      here_or_none here o (asides false e) ++ (step_row_at o then_part ++ step_row_at o else_part)
  step_at o (step.While' here e q body) = here_or_none here o (asides false e) ++ step_row_at o body

  pub step_row_at : (offset : ℕ) → {k : _} → Row_of-Step k → List Bool
  step_row_at o end_of-Step = []
  step_row_at o (more_of-Step s ss) = step_at o s ++ step_row_at o ss

abbrev pub steps_at : (offset : ℕ) → List Step → List Bool
steps_at o [] = []
steps_at o (s ∷ ss) = step_at o s ++ steps_at o ss

abbrev mutual
  pub statement_at : (offset : ℕ) → Statement → List Bool
  statement_at o (statement.Assign here x e) = here_or_none here o (assign_asides x e)
  statement_at o (statement.Print here e) = here_or_none here o (asides false e)
  statement_at o (statement.While' here e q body) = here_or_none here o (asides false e) ++ row_at o body
  statement_at o (statement.If' here e q then_part r else_part) =
      here_or_none here o (asides false e) ++ (row_at o then_part ++ row_at o else_part)
  statement_at o (statement.For' here x e f q body) = here_or_none here o (bounds_asides e f) ++ row_at o body
  statement_at o (statement.Pardo here e f locals body) = here_or_none here o (bounds_asides e f) ++ steps_at o body.items

  pub row_at : (offset : ℕ) → {k : _} → Row_of-Statement k → List Bool
  row_at o end_of-Statement = []
  row_at o (more_of-Statement s ss) = statement_at o s ++ row_at o ss

abbrev pub statements_at : (offset : ℕ) → List Statement → List Bool
statements_at o [] = []
statements_at o (s ∷ ss) = statement_at o s ++ statements_at o ss
