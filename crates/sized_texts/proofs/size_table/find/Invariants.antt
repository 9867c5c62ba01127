use Rattle.std.proofs.Common.{◌≡◌, drop}
use Rattle.sized_texts.specs.Sizes.{value_in}
use Rattle.sized_texts.specs.SizeTables.{bound}
use Rattle.sized_texts.proofs.size_table.find.Given as goal

-- what is left of the chain says what the whole chain says
abbrev pub invariant-loop-binding : goal.invariant-loop-binding
invariant-loop-binding l = value_in (bound l.chain) l.name ≡ value_in (bound (drop l.binding-index l.chain)) l.name
