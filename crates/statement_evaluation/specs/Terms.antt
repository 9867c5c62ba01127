-- What a statement evaluates, as terms: one node an operation, where an expression has a chain of operands.
use Rattle.std.specs.Prelude.{◌+◌, ℕ, ℤ, pos}
use Rattle.pram_tokens.specs.declared.token.Binary.{Binary}
use Rattle.pram_trees.specs.declared.tree.Prefix.{Prefix}
use Rattle.pram_names.specs.declared.body.Expression as body
use Rattle.pram_names.specs.declared.body.Expression.{Expression, Element', Prefix', Chain', Row_of-Link, end_of-Link, more_of-Link}
use Rattle.pram_names.specs.declared.body.Target.{Target}
use Rattle.pram_names.specs.declared.body.Target.TheVariants as target
use Rattle.pram_names.specs.declared.body.StepTarget.{StepTarget}
use Rattle.pram_names.specs.declared.body.StepTarget.TheVariants as inner

-- a number, a variable, the index, a local, the cell of a declaration at a subscript, and an operator before or between values
pub data Term : Type 0 where
  Number : ℤ → Term
  Uniform : ℕ → Term
  Index : Term
  Local : ℕ → Term
  Read : (entry : ℕ) → (subscript : Term) → Term
  Before : Prefix → Term → Term
  Between : Binary → (left right : Term) → Term

abbrev mutual
  -- an expression as a term; a single cell has the subscript 0
  pub term_of : Expression → Term
  term_of (body.Number n) = Number n
  term_of (body.Uniform x) = Uniform x
  term_of body.Index = Index
  term_of (body.Local x) = Local x
  term_of (body.Cell a) = Read a (Number (pos 0))
  term_of (Element' a b e) = Read a (term_of e)
  term_of (Prefix' o b e) = Before o (term_of e)
  term_of (Chain' b e q links) = chained (term_of e) links

  -- a chain leans to the left
  pub chained : Term → {n : _} → Row_of-Link n → Term
  chained t end_of-Link = t
  chained t (more_of-Link o e links) = chained (Between o t (term_of e)) links

-- what each processor of a statement does: it evaluates a term; or a subscript and a value, which it writes to that cell of a declaration
pub data Task : Type 0 where
  Gets : Term → Task
  Writes : (entry : ℕ) → (subscript value : Term) → Task

-- an assignment outside pardo
abbrev pub assignment : Target → Expression → Task
assignment (target.Uniform x) e = Gets (term_of e)
assignment (target.Cell a) e = Writes a (Number (pos 0)) (term_of e)
assignment (target.Element a f) e = Writes a (term_of f) (term_of e)

-- the same inside pardo
abbrev pub inner_assignment : StepTarget → Expression → Task
inner_assignment (inner.Local x) e = Gets (term_of e)
inner_assignment (inner.Cell a) e = Writes a (Number (pos 0)) (term_of e)
inner_assignment (inner.Element a f) e = Writes a (term_of f) (term_of e)

-- how many positions there are in a term, one for each read and each operator
abbrev pub positions : Term → ℕ
positions (Number n) = 0
positions (Uniform x) = 0
positions Index = 0
positions (Local x) = 0
positions (Read a t) = positions t + 1
positions (Before o t) = positions t + 1
positions (Between o t u) = positions t + positions u + 1

-- and in what a processor does: a write has the last one
abbrev pub task_positions : Task → ℕ
task_positions (Gets t) = positions t
task_positions (Writes a t u) = positions t + positions u + 1
