-- How far down a line of the grammar is.
use Rattle.std.proofs.Common.{ℕ}
use Rattle.pram_trees.specs.declared.level.Level.{Level}
use Rattle.pram_trees.specs.declared.level.Level.TheVariants as level

abbrev pub rank : Level → ℕ
rank level.Atom = 4
rank level.Unary = 6
rank level.Term = 8
rank level.Sum = 10
rank level.Comparison = 12
rank level.Negation = 14
rank level.Conjunction = 16
rank level.Expression = 18
