-- How far the evaluation of a statement has come.
use Rattle.std.specs.Prelude.{ℕ, ◌+◌, List, [], ◌∷◌, take}
use Rattle.pram_names.specs.declared.body.Expression.{Expression, Chain'}
use Rattle.pram_names.specs.declared.body.Link.{Link}
use Rattle.plain_form.specs.Formulas.{Formula, Zero, Between, formula_of, reads, positions}
use Rattle.straight_lowering.specs.declared.cursor.Cursor.{Cursor}

-- behind a formula: its reads have registers, and its positions are gone through
abbrev pub behind : Formula → Cursor → Cursor
behind f at = record { read = at.read + reads f; position = at.position + positions f }

-- the formula of a chain, from its first operands on
abbrev pub chain_of : Formula → List Link → Formula
chain_of f [] = f
chain_of f (l ∷ ls) = chain_of (Between l.operator f (formula_of l.operand)) ls

-- the formula of a chain's first operand
abbrev pub first_of : Expression → Formula
first_of (Chain' b e q links) = formula_of e
first_of _ = Zero

-- the formula of the first operands of a chain, as many links as i and one
abbrev pub so_far : Expression → List Link → ℕ → Formula
so_far e links i = chain_of (first_of e) (take i links)
