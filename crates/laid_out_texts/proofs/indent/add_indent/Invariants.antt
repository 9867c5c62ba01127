use Rattle.std.proofs.Common.{◌≡◌, ◌++◌}
use Rattle.laid_out_texts.specs.Layout.{indent}
use Rattle.laid_out_texts.proofs.indent.add_indent.Given as goal

abbrev pub invariant-loop : goal.invariant-loop
invariant-loop l = l.to.items ≡ l.initial.to.items ++ indent l.counter
