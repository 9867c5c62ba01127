use Rattle.std.proofs.Common.{◌≡◌, ◌++◌, drop}
use Rattle.sized_texts.proofs.size_table.table_of.Given as goal

-- what is there and what is left are all
abbrev pub invariant-loop-size : goal.invariant-loop-size
invariant-loop-size l = l.table ++ drop l.size-index l.sizes ≡ l.sizes
