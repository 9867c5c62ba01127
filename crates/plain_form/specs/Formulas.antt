-- What a statement evaluates, as its code is made from it: one node an operation, where an expression has a chain of operands.
use Rattle.std.specs.Prelude.{ℕ, ◌+◌, max, ℤ}
use Rattle.pram_tokens.specs.declared.token.Binary.{Binary}
use Rattle.pram_trees.specs.declared.tree.Prefix.{Prefix}
use Rattle.pram_names.specs.declared.body.Expression as body
use Rattle.pram_names.specs.declared.body.Expression.{Expression, Element', Prefix', Chain', Row_of-Link, end_of-Link, more_of-Link}

-- The zero of the register that stays 0, a number, a uniform variable, the index, a local, a read of the cell of a declaration at a
-- subscript, an operator before or between values; and two expressions of a statement, one behind the other.
pub data Formula : Type 0 where
  Zero : Formula
  Number : ℤ → Formula
  Variable : ℕ → Formula
  Index : Formula
  Local : ℕ → Formula
  Read : (entry : ℕ) → (subscript : Formula) → Formula
  Before : Prefix → Formula → Formula
  Between : Binary → (left right : Formula) → Formula
  Pair : (first second : Formula) → Formula

abbrev mutual
  -- an expression as a formula; a single cell has the subscript zero
  pub formula_of : Expression → Formula
  formula_of (body.Number n) = Number n
  formula_of (body.Uniform x) = Variable x
  formula_of body.Index = Index
  formula_of (body.Local x) = Local x
  formula_of (body.Cell a) = Read a Zero
  formula_of (Element' a b e) = Read a (formula_of e)
  formula_of (Prefix' o b e) = Before o (formula_of e)
  formula_of (Chain' b e q links) = chained (formula_of e) links

  -- a chain leans to the left
  pub chained : Formula → {n : _} → Row_of-Link n → Formula
  chained f end_of-Link = f
  chained f (more_of-Link o e links) = chained (Between o f (formula_of e)) links

-- how many shared reads there are in a formula
abbrev pub reads : Formula → ℕ
reads Zero = 0
reads (Number n) = 0
reads (Variable x) = 0
reads Index = 0
reads (Local x) = 0
reads (Read a f) = reads f + 1
reads (Before o f) = reads f
reads (Between o f g) = reads f + reads g
reads (Pair f g) = reads f + reads g

-- how many positions there are, one for each read and each operator
abbrev pub positions : Formula → ℕ
positions Zero = 0
positions (Number n) = 0
positions (Variable x) = 0
positions Index = 0
positions (Local x) = 0
positions (Read a f) = positions f + 1
positions (Before o f) = positions f + 1
positions (Between o f g) = positions f + positions g + 1
positions (Pair f g) = positions f + positions g

-- how deep reads nest in subscripts of reads
abbrev pub nesting : Formula → ℕ
nesting Zero = 0
nesting (Number n) = 0
nesting (Variable x) = 0
nesting Index = 0
nesting (Local x) = 0
nesting (Read a f) = nesting f + 1
nesting (Before o f) = nesting f
nesting (Between o f g) = max (nesting f) (nesting g)
nesting (Pair f g) = max (nesting f) (nesting g)
